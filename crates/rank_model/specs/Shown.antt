-- Stated. What a certificate states of an end of an interval, in ℚ: coefficients b, a side for each row, dual
-- values by these sides, and what lies beyond; and that this shows the end.
use Rattle.std.specs.Prelude.{◌≡◌, ◌⊎◌, ℕ, ◌<◌, pos, negsuc}
use Rattle.rational_laws.specs.Rational.{ℚ, ◌*ℚ◌, neg_ℚ, whole, ◌≤ℚ◌}
use Rattle.loss_model.specs.declared.vertex.Side.{Side}
use Rattle.loss_model.specs.Sample.{Sample, up_cost, down_cost, fitted, residual}
use Rattle.loss_model.specs.Vertex.{value_of_side, IsOn}
use Rattle.loss_model.specs.Strict.{◌<ℚ◌}
use Rattle.rank_model.specs.Restricted.{IsFeasibleWithout, rank_statistic, rank_bound}
use Rattle.rank_model.specs.Bounds.{IsShownHigh, IsShownLow}
use Rattle.loss_model.specs.declared.interval.Bound.TheVariants.{Finite, Infinite}

-- each value is that of its side: a cost, or any value in a row of the basis
abbrev pub AreBySides : Sample → ℚ → (ℕ → Side) → (ℕ → ℚ) → Type 0
AreBySides p theta side e = (i : ℕ) → i < p.rows → e i ≡ value_of_side p theta e i (side i)

-- residuals lie on their sides, and the values are by these sides, feasible, and within the bound
pub record IsStatedInside (p : Sample) (j : ℕ) (tau crit q : ℚ) (b : ℕ → ℚ) (side : ℕ → Side) (e : ℕ → ℚ) : Type 0 where
  pub on : (i : ℕ) → i < p.rows → IsOn (side i) (residual p b i)
  pub by_sides : AreBySides p tau side e
  pub feasible : IsFeasibleWithout p j tau e
  pub within : (rank_statistic p j e *ℚ rank_statistic p j e) ≤ℚ rank_bound tau crit q

-- other values by the same sides are feasible, and beyond the bound
pub record IsStatedBeyond (p : Sample) (j : ℕ) (tau crit q : ℚ) (side : ℕ → Side) (f : ℕ → ℚ) : Type 0 where
  pub by_sides : AreBySides p tau side f
  pub feasible : IsFeasibleWithout p j tau f
  pub beyond : rank_bound tau crit q <ℚ (rank_statistic p j f *ℚ rank_statistic p j f)

-- the fit of row i is flat along the ray, or falls there and the row has its up cost, or rises and the row
-- has its negated down cost
abbrev pub IsRowAlong : Sample → ℚ → (ℕ → ℚ) → (ℕ → ℚ) → ℕ → Type 0
IsRowAlong p theta ray e i =
    (fitted p ray i ≡ whole (pos 0))
    ⊎ (((fitted p ray i <ℚ whole (pos 0)) × (e i ≡ up_cost p theta i))
    ⊎ ((whole (pos 0) <ℚ fitted p ray i) × (e i ≡ neg_ℚ (down_cost p theta i))))

-- so it is in every row
abbrev pub IsStatedRay : Sample → ℚ → (ℕ → ℚ) → (ℕ → ℚ) → Type 0
IsStatedRay p theta ray e = (i : ℕ) → i < p.rows → IsRowAlong p theta ray e i

-- with values beyond whose statistic is negative the coefficient is shown as the high end; with a ray on
-- which it rises there is none
abbrev pub HighConditionsShow : Type 0
HighConditionsShow =
    (p : Sample) (j : ℕ) (tau crit q : ℚ) (b : ℕ → ℚ) (side : ℕ → Side) (e : ℕ → ℚ) → j < p.columns
    → IsStatedInside p j tau crit q b side e
    → ((f : ℕ → ℚ) → IsStatedBeyond p j tau crit q side f → rank_statistic p j f <ℚ whole (pos 0)
    → IsShownHigh p j tau crit q (Finite (b j)) e)
    × ((ray : ℕ → ℚ) → ray j ≡ whole (pos 1) → IsStatedRay p tau ray e → IsShownHigh p j tau crit q Infinite e)

-- with values beyond whose statistic is positive it is shown as the low end; with a ray on which it falls
-- there is none
abbrev pub LowConditionsShow : Type 0
LowConditionsShow =
    (p : Sample) (j : ℕ) (tau crit q : ℚ) (b : ℕ → ℚ) (side : ℕ → Side) (e : ℕ → ℚ) → j < p.columns
    → IsStatedInside p j tau crit q b side e
    → ((f : ℕ → ℚ) → IsStatedBeyond p j tau crit q side f → whole (pos 0) <ℚ rank_statistic p j f
    → IsShownLow p j tau crit q (Finite (b j)) e)
    × ((ray : ℕ → ℚ) → ray j ≡ whole (negsuc 0) → IsStatedRay p tau ray e → IsShownLow p j tau crit q Infinite e)
