-- Law. What the grammar leaves of a formula's lambdas, arithmetics and numbers of parts; each law is a clause of a function.
use Rattle.std.specs.Prelude.{◌<◌, ◌≤◌, ◌^◌, List, All, length, pos}
use Rattle.rational_laws.specs.Rational.{◌≤ℚ◌, whole}
use Rattle.formula_parser.specs.Parsed.{IsParsed, exact, Formula}
use Rattle.formula_parser.specs.Scope.{Text}
use Rattle.formula_parser.specs.Held.{IsHeld, ariths_of}

-- no lambda of a formula is negative
abbrev pub LambdasAreNotNegative : Type 0
LambdasAreNotNegative =
    (text : Text) (names : List Text) (f : Formula) → IsParsed text names f → All (λ s. whole (pos 0) ≤ℚ exact s.lambda) f.smooths

-- the arithmetics of a formula hold what their texts say, can be evaluated, and have the names of columns
abbrev pub ArithmeticsAreHeld : Type 0
ArithmeticsAreHeld =
    (text : Text) (names : List Text) (f : Formula) → length text < 2 ^ 31 → IsParsed text names f → All (IsHeld names) (ariths_of f)

-- the variables of a term and the offsets are counted in 32 bits
pub record IsCountable (f : Formula) : Type 0 where
  pub variables : All (λ t. length t.variables < 2 ^ 32) f.terms
  pub offsets : length f.offsets < 2 ^ 31

-- so are those of a formula over at most 1,024 columns
abbrev pub FormulasAreCountable : Type 0
FormulasAreCountable =
    (text : Text) (names : List Text) (f : Formula) → length names ≤ 1024 → length text < 2 ^ 31 → IsParsed text names f → IsCountable f
