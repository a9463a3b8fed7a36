-- Law. The walks of a tested value: where they begin, what their dual values are, and how they end.
use Rattle.std.specs.Prelude.{◌≡◌, ◌≢◌, ℕ, ◌<◌, Bool, false, pos}
use Rattle.rational_laws.specs.Rational.{ℚ, ◌+ℚ◌, ◌*ℚ◌, neg_ℚ, whole}
use Rattle.rational_laws.specs.RationalSums.{sum_ℚ}
use Rattle.loss_model.specs.Sample.{Sample}
use Rattle.loss_model.specs.Complements.{IsComplementary, residual_change}
use Rattle.pivot_model.specs.Basis.{IsBasis, dual_value}
use Rattle.pivot_model.specs.declared.direction.Direction.{Direction}
use Rattle.pivot_model.specs.Steps.{slope, moves}
use Rattle.walk_model.specs.Families.{Family, rising_value, falling_value, IsFeasibleIn, basic_at, dual_in, slope_in, IsOptimalIn}
use Rattle.walk_model.specs.Walks.{IsEndOf, Crosses, IsNextBreak, IsWalkingStep}
use Rattle.walk_model.specs.Rays.{ray_up, ray_down}

-- at 0 slopes are those of the pivot at the quantile
abbrev pub TestedAsSolved : Type 0
TestedAsSolved =
    (p : Sample) (tau : ℚ) (c : ℕ) (at : ℕ → ℕ) (a : ℕ → ℕ → ℚ)
    → ((j : ℕ) (d : Direction) → slope_in (rising_value p tau c) at a (whole (pos 0)) j d ≡ slope p at a tau j d)
    × ((j : ℕ) (d : Direction) → slope_in (falling_value p tau c) at a (whole (pos 0)) j d ≡ slope p at a tau j d)

-- after it the dual value at position j moves with the inverse's entry of the column
abbrev pub TestedValues : Type 0
TestedValues =
    (p : Sample) (tau t : ℚ) (c : ℕ) (at : ℕ → ℕ) (a : ℕ → ℕ → ℚ) (j : ℕ) → c < p.columns
    → (basic_at (rising_value p tau c) at a t j ≡ dual_value p at a tau j +ℚ (a c j *ℚ neg_ℚ t))
    × (basic_at (falling_value p tau c) at a t j ≡ dual_value p at a tau j +ℚ (a c j *ℚ t))

-- by their dual values the rows weigh s in column c, and nothing in any other
abbrev pub WeighAlone : Sample → ℕ → (ℕ → ℚ) → ℚ → Type 0
WeighAlone p c e s =
    (sum_ℚ p.rows (λ i. e i *ℚ p.x i c) ≡ s)
    × ((k : ℕ) → k < p.columns → k ≢ c → sum_ℚ p.rows (λ i. e i *ℚ p.x i k) ≡ whole (pos 0))

-- the column weighs -t while the tested value rises, t while it falls, and each other one nothing
abbrev pub TestedWeights : Type 0
TestedWeights =
    (p : Sample) (tau t : ℚ) (c : ℕ) (e : ℕ → ℚ) → c < p.columns
    → (IsFeasibleIn (rising_value p tau c) t e → WeighAlone p c e (neg_ℚ t))
    × (IsFeasibleIn (falling_value p tau c) t e → WeighAlone p c e t)

-- a next breakpoint is there
abbrev pub HasNextBreak : Family → (ℕ → ℕ) → (ℕ → ℕ → ℚ) → ℚ → Type 0
HasNextBreak f at a from = (t : ℚ) × (j : ℕ) × (d : Direction) × IsNextBreak f at a from t j d

-- the next breakpoint is always there
abbrev pub TestedBreakIsThere : Type 0
TestedBreakIsThere =
    (p : Sample) (tau from : ℚ) (c : ℕ) (at : ℕ → ℕ) (a : ℕ → ℕ → ℚ) → IsBasis p at a → c < p.columns
    → (IsOptimalIn (rising_value p tau c) at a from → HasNextBreak (rising_value p tau c) at a from)
    × (IsOptimalIn (falling_value p tau c) at a from → HasNextBreak (falling_value p tau c) at a from)

-- so where no step is left, it is out of reach, or no row moves there
abbrev pub TestedEnd : Type 0
TestedEnd =
    (p : Sample) (tau from : ℚ) (c : ℕ) (at : ℕ → ℕ) (a : ℕ → ℕ → ℚ) (reach : ℚ → Bool) → IsBasis p at a → c < p.columns
    → (IsOptimalIn (rising_value p tau c) at a from → ((t : ℚ) (j r : ℕ) → ¬ IsWalkingStep (rising_value p tau c) at a reach from t j r)
    → IsEndOf (rising_value p tau c) at a reach from)
    × (IsOptimalIn (falling_value p tau c) at a from → ((t : ℚ) (j r : ℕ) → ¬ IsWalkingStep (falling_value p tau c) at a reach from t j r)
    → IsEndOf (falling_value p tau c) at a reach from)

-- and where no row moves, the dual values complement how the residuals change along the direction of the
-- position, scaled at the column
abbrev pub StuckIsRay : Type 0
StuckIsRay =
    (p : Sample) (tau t : ℚ) (c j : ℕ) (d : Direction) (at : ℕ → ℕ) (a : ℕ → ℕ → ℚ) → IsBasis p at a → c < p.columns → j < p.columns
    → ((i : ℕ) → i < p.rows → moves p at a j d i ≡ false)
    → (Crosses (rising_value p tau c) at a t j d
    → IsComplementary p tau (residual_change p (ray_up a c j)) (dual_in (rising_value p tau c) at a t) × (ray_up a c j c ≡ whole (pos 1)))
    × (Crosses (falling_value p tau c) at a t j d
    → IsComplementary p tau (residual_change p (ray_down a c j)) (dual_in (falling_value p tau c) at a t) × (ray_down a c j c ≡ neg_ℚ (whole (pos 1))))
