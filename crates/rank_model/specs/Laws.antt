-- Law. What dual values of the restricted problem do as the tested value moves (Koenker 2005, section
-- 3.5), and so which values are between the ends of a rank interval: exactly those that hold.
use Rattle.std.specs.Prelude.{◌≡◌, ◌↔◌, ℕ, ◌<◌, pos, negsuc}
use Rattle.rational_laws.specs.Rational.{ℚ, whole, ◌≤ℚ◌}
use Rattle.loss_model.specs.Sample.{Sample, residual}
use Rattle.loss_model.specs.Dual.{IsDual, IsDataRow}
use Rattle.rank_model.specs.Gram.{HasWeights}
use Rattle.loss_model.specs.Strict.{◌<ℚ◌}
use Rattle.loss_model.specs.Complements.{IsComplementary, residual_change}
use Rattle.rank_model.specs.Restricted.{IsFeasibleWithout, IsOptimalAt, rank_statistic, IsProjection, squared_length, rank_bound, Holds}
use Rattle.rank_model.specs.Bounds.{IsAtLeast, IsAtMost, IsAbove, IsBelow, HoldsBetween, IsInside, IsHighEnd, IsLowEnd, IsShownHigh, IsShownLow}
use Rattle.loss_model.specs.declared.interval.Bound.{Bound}
use Rattle.loss_model.specs.declared.interval.Bound.TheVariants.{Finite, Infinite}

-- feasible values that complement the residuals of coefficients b are optimal at b j
abbrev pub ComplementaryIsOptimal : Type 0
ComplementaryIsOptimal =
    (p : Sample) (j : ℕ) (theta : ℚ) (b e : ℕ → ℚ) → j < p.columns → IsFeasibleWithout p j theta e
    → IsComplementary p theta (residual p b) e → IsOptimalAt p j theta (b j) e

-- the statistic falls as the tested value rises
abbrev pub StatisticFalls : Type 0
StatisticFalls =
    (p : Sample) (j : ℕ) (theta lo hi : ℚ) (e f : ℕ → ℚ) → IsOptimalAt p j theta lo e → IsOptimalAt p j theta hi f
    → lo <ℚ hi → rank_statistic p j f ≤ℚ rank_statistic p j e

-- values that are optimal at two tested values are so at every one between
abbrev pub OptimalBetween : Type 0
OptimalBetween =
    (p : Sample) (j : ℕ) (theta lo hi xi : ℚ) (e : ℕ → ℚ) → IsOptimalAt p j theta lo e → IsOptimalAt p j theta hi e
    → lo ≤ℚ xi → xi ≤ℚ hi → IsOptimalAt p j theta xi e

-- values that complement every residual's change along d, of which coefficient j rises, have the
-- least statistic of all feasible values, and stay optimal as the tested value rises
abbrev pub RisingRay : Type 0
RisingRay =
    (p : Sample) (j : ℕ) (theta lo : ℚ) (d e : ℕ → ℚ) → j < p.columns → IsOptimalAt p j theta lo e
    → IsComplementary p theta (residual_change p d) e → d j ≡ whole (pos 1)
    → ((f : ℕ → ℚ) → IsFeasibleWithout p j theta f → rank_statistic p j e ≤ℚ rank_statistic p j f)
    × ((xi : ℚ) → lo ≤ℚ xi → IsOptimalAt p j theta xi e)

-- where coefficient j falls along d they have the greatest, and stay optimal as the tested value falls
abbrev pub FallingRay : Type 0
FallingRay =
    (p : Sample) (j : ℕ) (theta hi : ℚ) (d e : ℕ → ℚ) → j < p.columns → IsOptimalAt p j theta hi e
    → IsComplementary p theta (residual_change p d) e → d j ≡ whole (negsuc 0)
    → ((f : ℕ → ℚ) → IsFeasibleWithout p j theta f → rank_statistic p j f ≤ℚ rank_statistic p j e)
    × ((xi : ℚ) → xi ≤ℚ hi → IsOptimalAt p j theta xi e)

-- two projections leave the same length
abbrev pub OneLength : Type 0
OneLength = (p : Sample) (j : ℕ) (c d : ℕ → ℚ) → j < p.columns → IsProjection p j c → IsProjection p j d → squared_length p j c ≡ squared_length p j d

-- factors that are equal below the columns leave the same
abbrev pub ProjectionByEntries : Type 0
ProjectionByEntries =
    (p : Sample) (j : ℕ) (c d : ℕ → ℚ) → j < p.columns → ((k : ℕ) → k < p.columns → d k ≡ c k) → IsProjection p j c
    → IsProjection p j d × (squared_length p j d ≡ squared_length p j c)

-- a weight of a data row isn't 0
abbrev pub DataRowsHaveWeights : Type 0
DataRowsHaveWeights = (p : Sample) → ((i : ℕ) → i < p.rows → IsDataRow p i) → HasWeights p

-- a bound by a projection is not negative
abbrev pub BoundIsNotNegative : Type 0
BoundIsNotNegative =
    (p : Sample) (j : ℕ) (tau crit : ℚ) (c : ℕ → ℚ) → whole (pos 0) ≤ℚ crit → whole (pos 0) ≤ℚ tau → tau ≤ℚ whole (pos 1)
    → whole (pos 0) ≤ℚ rank_bound tau crit (squared_length p j c)

-- the dual values of a fit to all columns have the statistic 0, so they are inside at its coefficient
abbrev pub FitIsInside : Type 0
FitIsInside =
    (p : Sample) (j : ℕ) (tau crit q : ℚ) (b e : ℕ → ℚ) → j < p.columns → IsDual p tau b e
    → whole (pos 0) ≤ℚ rank_bound tau crit q → IsInside p j tau crit q (b j) e

-- a walk begins at a value that is inside
abbrev pub WalkBegins : Type 0
WalkBegins =
    (p : Sample) (j : ℕ) (tau crit start : ℚ) (c e : ℕ → ℚ) → IsProjection p j c
    → IsInside p j tau crit (squared_length p j c) start e → HoldsBetween p j tau crit start start

-- values that are inside at the present end and optimal at the next one carry it on, upwards
abbrev pub RiseGoesOn : Type 0
RiseGoesOn =
    (p : Sample) (j : ℕ) (tau crit start present next : ℚ) (c e : ℕ → ℚ) → IsProjection p j c
    → HoldsBetween p j tau crit start present → IsInside p j tau crit (squared_length p j c) present e
    → IsOptimalAt p j tau next e → HoldsBetween p j tau crit start next

-- and downwards
abbrev pub FallGoesOn : Type 0
FallGoesOn =
    (p : Sample) (j : ℕ) (tau crit start present next : ℚ) (c e : ℕ → ℚ) → IsProjection p j c
    → HoldsBetween p j tau crit present start → IsInside p j tau crit (squared_length p j c) present e
    → IsOptimalAt p j tau next e → HoldsBetween p j tau crit next start

-- where they complement a ray on which coefficient j rises, there is no high end
abbrev pub RiseIsEndless : Type 0
RiseIsEndless =
    (p : Sample) (j : ℕ) (tau crit start present : ℚ) (c d e : ℕ → ℚ) → j < p.columns → IsProjection p j c
    → HoldsBetween p j tau crit start present → IsInside p j tau crit (squared_length p j c) present e
    → IsComplementary p tau (residual_change p d) e → d j ≡ whole (pos 1)
    → IsHighEnd p j tau crit (squared_length p j c) start Infinite

-- where it falls, there is no low end
abbrev pub FallIsEndless : Type 0
FallIsEndless =
    (p : Sample) (j : ℕ) (tau crit start present : ℚ) (c d e : ℕ → ℚ) → j < p.columns → IsProjection p j c
    → HoldsBetween p j tau crit present start → IsInside p j tau crit (squared_length p j c) present e
    → IsComplementary p tau (residual_change p d) e → d j ≡ whole (negsuc 0)
    → IsLowEnd p j tau crit (squared_length p j c) start Infinite

-- what both walks leave: a value is at least a finite low end and at most a finite high end exactly
-- where it holds
abbrev pub ExactInterval : Type 0
ExactInterval =
    (p : Sample) (j : ℕ) (tau crit start : ℚ) (c : ℕ → ℚ) (low high : Bound ℚ) → j < p.columns → IsProjection p j c
    → IsLowEnd p j tau crit (squared_length p j c) start low → IsHighEnd p j tau crit (squared_length p j c) start high
    → (xi : ℚ) → (IsAtLeast low xi × IsAtMost high xi) ↔ Holds p j tau crit xi

-- where the value holds at which both walks begin, a finite low end is at most a finite high one
abbrev pub EndsAreInOrder : Type 0
EndsAreInOrder =
    (p : Sample) (j : ℕ) (tau crit start : ℚ) (c : ℕ → ℚ) (lo hi : ℚ) → j < p.columns → IsProjection p j c → Holds p j tau crit start
    → IsLowEnd p j tau crit (squared_length p j c) start (Finite lo) → IsHighEnd p j tau crit (squared_length p j c) start (Finite hi)
    → lo ≤ℚ hi

-- what a certificate's interval shows, whoever wrote it: no value beyond a finite end holds
abbrev pub NothingBeyond : Type 0
NothingBeyond =
    (p : Sample) (j : ℕ) (tau crit : ℚ) (c a b : ℕ → ℚ) (low high : Bound ℚ) → j < p.columns → IsProjection p j c
    → IsShownLow p j tau crit (squared_length p j c) low a → IsShownHigh p j tau crit (squared_length p j c) high b
    → (xi : ℚ) → Holds p j tau crit xi → IsAtLeast low xi × IsAtMost high xi

-- and all optimal values between the ends are within the bound
abbrev pub AllAreWithin : Type 0
AllAreWithin =
    (p : Sample) (j : ℕ) (tau crit : ℚ) (c a b : ℕ → ℚ) (low high : Bound ℚ)
    → IsShownLow p j tau crit (squared_length p j c) low a → IsShownHigh p j tau crit (squared_length p j c) high b
    → (xi : ℚ) (e : ℕ → ℚ) → IsAbove low xi → IsBelow high xi → IsOptimalAt p j tau xi e
    → IsInside p j tau crit (squared_length p j c) xi e
