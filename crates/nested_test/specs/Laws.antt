-- Law. What the laws of nested models say; each is the contract of a function.
use Rattle.std.specs.Prelude.{◌≡◌, ℕ, List, pos}
use Rattle.rational_laws.specs.Fraction.{Fraction}
use Rattle.rational_laws.specs.Rational.{ℚ, ◌*ℚ◌, whole, ◌≤ℚ◌}
use Rattle.rational_laws.specs.RationalSums.{sum_ℚ}
use Rattle.rational_laws.specs.Selections.{AreDistinct}
use Rattle.loss_model.specs.declared.problem.Problem.{Problem}
use Rattle.loss_model.specs.Dual.{IsDataRow}
use Rattle.loss_model.specs.FullRank.{HasFullRank}
use Rattle.loss_model.specs.Problem.{IsWellShaped, sample}
use Rattle.loss_model.specs.Sample.{Sample}
use Rattle.nested_test.specs.Nested.{rest, AreNestedFactors, nested_statistic}
use Rattle.nested_test.specs.Restricted.{AreTested, restricted_problem}

-- the statistic is 12 times the square of the rest, so it is not negative
abbrev pub StatisticIsSquare : Type 0
StatisticIsSquare =
    (p : Sample) (at : ℕ → ℕ) (n : ℕ) (s v u : ℕ → ℚ) → AreDistinct at n p.columns → AreNestedFactors p at n s v u
    → (nested_statistic p at n s v ≡ whole (pos 12) *ℚ sum_ℚ p.rows (λ i. rest p at n v u i *ℚ rest p at n v u i))
    × (whole (pos 0) ≤ℚ nested_statistic p at n s v)

-- the data rows of a problem stay data rows without tested columns
abbrev pub RestrictedHasDataRows : {F : Type 0} → (F → Fraction) → Problem F → Type 0
RestrictedHasDataRows value p =
    (tested : List ℕ) (i : ℕ) → IsDataRow (sample value p) i → IsDataRow (sample value (restricted_problem tested p)) i

-- and independent columns stay independent
abbrev pub RestrictedHasFullRank : {F : Type 0} → (F → Fraction) → Problem F → Type 0
RestrictedHasFullRank value p =
    (tested : List ℕ) → IsWellShaped p → AreTested p.columns tested → HasFullRank (sample value p)
    → HasFullRank (sample value (restricted_problem tested p))
