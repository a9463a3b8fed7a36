-- Stated. What an evaluation answers: the value of the arithmetic that the code is of, or the
-- first of its operations that overflows.
use Rattle.std.specs.Prelude.{◌≡◌, ◌+◌, ◌-◌, ◌^◌, ℕ, true, List, [], ◌∷◌, ◌++◌, length, map, pos, slice_index_or}
use Rattle.rational_laws.specs.Rational.{ℚ, whole}
use Rattle.frac_core.specs.Overflow.{Overflows}
use Rattle.frac_core.specs.declared.exact.Op.{Op}
use Rattle.frac_core.specs.declared.frac128.Frac128.{Frac128}
use Rattle.frac_core.specs.declared.arith.Arith.{Arith}
use Rattle.frac_core.specs.Values.{exact}
use Rattle.formula_arith.specs.declared.fault.ArithFault.{ArithFault}
use Rattle.formula_arith.specs.declared.fault.ArithFault.TheVariants.{OutOfMemory, Overflow}
use Rattle.formula_arith.specs.Arithmetics.{Text, Arithmetic, distinct_names, has_exponents}
use Rattle.formula_arith.specs.Values.{Operation, arithmetic_operations, arithmetic_value}
use Rattle.formula_arith.specs.Codes.{arithmetic_code, name_index}

-- the names and the code are those of this arithmetic, whose exponents are 1 to 8
pub record IsArithmetic (arith : Arith) (tree : Arithmetic) : Type 0 where
  pub names : arith.names ≡ distinct_names tree
  pub code : arith.code ≡ arithmetic_code (distinct_names tree) tree
  pub exponents : has_exponents tree ≡ true

-- the value of a name: those of the distinct names stand in their order
abbrev pub given_by : List Text → List ℚ → Text → ℚ
given_by names values x = slice_index_or values (name_index names x) (whole (pos 0))

-- what an arithmetic comes to at these values
abbrev pub value_at : Arithmetic → List ℚ → ℚ
value_at tree values = arithmetic_value (given_by (distinct_names tree) values) tree

-- its operations at these values, in order
abbrev pub operations_at : Arithmetic → List ℚ → List Operation
operations_at tree values = arithmetic_operations (given_by (distinct_names tree) values) tree

-- this operation overflows
pub record IsOverflowOf (o : Operation) (op : Op Frac128) : Type 0 where
  pub kind : op.kind ≡ o.kind
  pub is_left : exact op.left ≡ o.left
  pub is_right : exact op.right ≡ o.right
  pub overflows : Overflows (2 ^ 127 - 1) o.kind (record { num = op.left.num; den = op.left.den }) (record { num = op.right.num; den = op.right.den })

-- none of these operations overflows
abbrev pub NoneOverflows : List Operation → Type 0
NoneOverflows [] = Unit {0}
NoneOverflows (o ∷ os) = ((op : Op Frac128) → IsOverflowOf o op → ⊥) × NoneOverflows os

-- the first operation that overflows is this one, which bears the term; operations are counted from 1
pub record IsFirstOverflow (os : List Operation) (term : ℕ) (op : Op Frac128) : Type 0 where
  pub earlier : List Operation
  pub here : Operation
  pub later : List Operation
  pub all : os ≡ earlier ++ here ∷ later
  pub before : NoneOverflows earlier
  pub is : IsOverflowOf here op
  pub counted : term ≡ length earlier + 1

-- the value of the arithmetic, none of whose operations overflows
pub record IsValueOf (tree : Arithmetic) (values : List ℚ) (x : Frac128) : Type 0 where
  pub is : exact x ≡ value_at tree values
  pub fits : NoneOverflows (operations_at tree values)

-- why an arithmetic has no value
abbrev pub HasCause : Arithmetic → List ℚ → ArithFault → Type 0
HasCause tree values OutOfMemory = Unit {0}
HasCause tree values (Overflow term op) = IsFirstOverflow (operations_at tree values) term op

-- of whatever arithmetic the names and the code are, this is its value
abbrev pub IsValue : Arith → List Frac128 → Frac128 → Type 0
IsValue arith values x = (tree : Arithmetic) → IsArithmetic arith tree → IsValueOf tree (map exact values) x

-- and this is why it has none
abbrev pub IsCause : Arith → List Frac128 → ArithFault → Type 0
IsCause arith values fault = (tree : Arithmetic) → IsArithmetic arith tree → HasCause tree (map exact values) fault
