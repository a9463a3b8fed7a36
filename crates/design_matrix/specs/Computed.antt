-- Stated. What the arithmetics of a formula come to in the records of a table. Records are counted from 0 here.
use Rattle.std.specs.Prelude.{◌<◌, ◌^◌, ℕ, ◌++◌, List, [], ◌∷◌, bytes_eq, cond, map}
use Rattle.std.specs.List.{list_any}
use Rattle.rational_laws.specs.Rational.{ℚ, ◌-ℚ◌}
use Rattle.frac_core.specs.declared.arith.Arith.{Arith}
use Rattle.formula_arith.specs.declared.fault.ArithFault.{ArithFault}
use Rattle.formula_arith.specs.declared.fault.ArithFault.TheVariants.{OutOfMemory, Overflow}
use Rattle.formula_arith.specs.Arithmetics.{Arithmetic}
use Rattle.formula_arith.specs.Codes.{numbered_in}
use Rattle.formula_arith.specs.Evaluations.{IsArithmetic, IsFirstOverflow}
use Rattle.formula_arith.specs.Machine.{code_operations, exec, top}
use Rattle.formula_arith.specs.Values.{Operation}
use Rattle.formula_parser.specs.Held.{ariths_of}
use Rattle.formula_parser.specs.declared.formula.Formula.{Formula}
use Rattle.design_matrix.specs.Cells.{Table, column_of, number_at}

-- the values of an arithmetic's names in a record
abbrev pub named_values : Table → Arith → ℕ → List ℚ
named_values table a i = map (λ name. number_at (column_of table name) i) a.names

-- what its code comes to there; by a law this is the value of the arithmetic that it holds
unfoldable pub arith_at : Table → Arith → ℕ → ℚ
arith_at table a i = top (exec (named_values table a i) a.code [])

-- the operations of its code there; by a law those of the arithmetic
unfoldable pub arith_operations : Table → Arith → ℕ → List Operation
arith_operations table a i = code_operations (named_values table a i) a.code []

-- why it has no value there: want of memory, or the first operation that overflows
abbrev pub HasArithCause : Table → Arith → ℕ → ArithFault → Type 0
HasArithCause table a i OutOfMemory = Unit {0}
HasArithCause table a i (Overflow term op) = IsFirstOverflow (arith_operations table a i) term op

-- it can be evaluated: its names and its code are those of an arithmetic, whose operations are counted in 32 bits
pub record CanEvaluate (a : Arith) : Type 0 where
  pub tree : Arithmetic
  pub is : IsArithmetic a tree
  pub short : numbered_in a.code < 2 ^ 32

-- an arithmetic at the end, where none has its text
abbrev pub with_text : List Arith → Arith → List Arith
with_text found a = cond (list_any (λ b. bytes_eq b.text a.text) found) found (found ++ a ∷ [])

-- each text once, where it first stands
abbrev pub texts_once : List Arith → List Arith → List Arith
texts_once found [] = found
texts_once found (a ∷ rest) = texts_once (with_text found a) rest

-- the arithmetics of a formula, equal ones once
unfoldable pub expressions : Formula → List Arith
expressions model = texts_once [] (ariths_of model)

-- the values of the offsets in a record
abbrev pub offsets_at : Table → List Arith → ℕ → List ℚ
offsets_at table offsets i = map (λ a. arith_at table a i) offsets

-- a number less others, in turn
abbrev pub less : ℚ → List ℚ → ℚ
less y [] = y
less y (x ∷ xs) = less (y -ℚ x) xs
