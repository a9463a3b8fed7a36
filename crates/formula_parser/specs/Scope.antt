-- Stated. What the names of a formula stand for.
use Rattle.std.specs.Prelude.{ℕ, ◌==◌, ◌&&◌, not, Bool, false, List, [], ◌∷◌, ◌++◌, map, flat_map, cond, length, ◌+◌}
use Rattle.std.specs.List.{filter, list_any, range_with_len}
use mathlib.Core.Bool.{beq}
use Rattle.formula_parser.specs.Words.{ArithPart, Span, Step, Load, LoadAll, LoadArith}
pub use Rattle.formula_parser.specs.declared.scope.Mention.{Mention}
pub use Rattle.formula_parser.specs.Columns.{Text, piece, column_of, column_at, name_at}
use Rattle.frac_core.specs.declared.arith.Arith.{Arith}
use Rattle.formula_parser.specs.Arithmetics.{arith_place}
use Rattle.formula_parser.specs.Terms.{Term, Terms}

-- a variable: a column, and whether it was written with `factor`
abbrev pub variable : ℕ → Bool → Mention
variable column factor = record { column = column; as_factor = factor }

-- of the same column, and both or neither written with `factor`
abbrev pub same : Mention → Mention → Bool
same v w = (v.column == w.column) && beq v.as_factor w.as_factor

-- the columns that `.` stands for: all but the response's
abbrev pub other_columns : ℕ → ℕ → List ℕ
other_columns count response = filter (λ c. not (c == response)) (range_with_len 0 count)

-- the variable of an arithmetic: the arithmetics count as columns behind those of the table
abbrev pub computed : Text → List Text → List Arith → ArithPart → Mention
computed text names ariths p = variable (length names + arith_place text names ariths p) false

-- the variables that a step loads
abbrev pub loaded : Text → List Text → List ℕ → List Arith → Step → List Mention
loaded text names others ariths (Load x f) = variable (column_at text names x) f ∷ []
loaded text names others ariths (LoadArith p) = computed text names ariths p ∷ []
loaded text names others ariths LoadAll = map (λ c. variable c false) others
loaded text names others ariths step = []

-- a variable at the end, where the list lacks it
abbrev pub with_variable : List Mention → Mention → List Mention
with_variable found v = cond (list_any (λ w. same w v) found) found (found ++ v ∷ [])

-- each variable once, where it first stands
abbrev pub each_once : List Mention → List Mention → List Mention
each_once found [] = found
each_once found (v ∷ vs) = each_once (with_variable found v) vs

-- the variables of a formula in the order in which they first stand in its text
abbrev pub variables_of : Text → List Text → List ℕ → List Arith → List Step → List Mention
variables_of text names others ariths steps = each_once [] (flat_map (loaded text names others ariths) steps)

-- the term of one variable
abbrev pub only_term : List Mention → Mention → Term
only_term vs v = map (λ w. same w v) vs

-- the term of a name in the text
abbrev pub named_term : Text → List Text → List Mention → Span → Bool → Term
named_term text names vs x f = only_term vs (variable (column_at text names x) f)

-- the term of an arithmetic
abbrev pub arith_term : Text → List Text → List Arith → List Mention → ArithPart → Term
arith_term text names ariths vs p = only_term vs (computed text names ariths p)

-- the terms of `.`
abbrev pub dot_terms : List Mention → List ℕ → Terms
dot_terms vs others = map (λ c. only_term vs (variable c false)) others
