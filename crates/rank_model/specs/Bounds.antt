-- Stated. Ends of a rank interval in ℚ, and what is known at an end: by the walk that leads to it, or by what
-- a certificate states.
use Rattle.std.specs.Prelude.{ℕ, pos}
use Rattle.rational_laws.specs.Rational.{ℚ, ◌*ℚ◌, whole, ◌≤ℚ◌}
use Rattle.loss_model.specs.Sample.{Sample}
use Rattle.loss_model.specs.declared.interval.Bound.{Bound}
use Rattle.loss_model.specs.declared.interval.Bound.TheVariants.{Finite, Infinite}
use Rattle.loss_model.specs.Strict.{◌<ℚ◌}
use Rattle.rank_model.specs.Restricted.{IsFeasibleWithout, IsOptimalAt, rank_statistic, rank_bound, Holds}

-- a value is not below the low end
abbrev pub IsAtLeast : Bound ℚ → ℚ → Type 0
IsAtLeast (Finite lo) xi = lo ≤ℚ xi
IsAtLeast Infinite xi = Unit {0}

-- it is not above the high end
abbrev pub IsAtMost : Bound ℚ → ℚ → Type 0
IsAtMost (Finite hi) xi = xi ≤ℚ hi
IsAtMost Infinite xi = Unit {0}

-- it is above the low end
abbrev pub IsAbove : Bound ℚ → ℚ → Type 0
IsAbove (Finite lo) xi = lo <ℚ xi
IsAbove Infinite xi = Unit {0}

-- it is below the high end
abbrev pub IsBelow : Bound ℚ → ℚ → Type 0
IsBelow (Finite hi) xi = xi <ℚ hi
IsBelow Infinite xi = Unit {0}

module _ (p : Sample) (j : ℕ) (tau crit : ℚ) where
  -- all values between two hold
  abbrev pub HoldsBetween : ℚ → ℚ → Type 0
  HoldsBetween lo hi = (xi : ℚ) → lo ≤ℚ xi → xi ≤ℚ hi → Holds p j tau crit xi

  -- the values e are optimal at xi, and within the bound of a squared length q
  pub record IsInside (q xi : ℚ) (e : ℕ → ℚ) : Type 0 where
    pub optimal : IsOptimalAt p j tau xi e
    pub within : (rank_statistic p j e *ℚ rank_statistic p j e) ≤ℚ rank_bound tau crit q

  -- the values e are optimal at xi, and beyond it
  pub record IsBeyond (q xi : ℚ) (e : ℕ → ℚ) : Type 0 where
    pub optimal : IsOptimalAt p j tau xi e
    pub beyond : rank_bound tau crit q <ℚ (rank_statistic p j e *ℚ rank_statistic p j e)

  -- the high end of a walk that rises from `start`: all values up to it hold, and at a finite end some
  -- optimal values are beyond the bound, with a statistic that is not positive
  abbrev pub IsHighEnd : ℚ → ℚ → Bound ℚ → Type 0
  IsHighEnd q start (Finite hi) =
      HoldsBetween start hi × ((f : ℕ → ℚ) × IsBeyond q hi f × (rank_statistic p j f ≤ℚ whole (pos 0)))
  IsHighEnd q start Infinite = (xi : ℚ) → start ≤ℚ xi → Holds p j tau crit xi

  -- the low end of a walk that falls from `start`
  abbrev pub IsLowEnd : ℚ → ℚ → Bound ℚ → Type 0
  IsLowEnd q start (Finite lo) =
      HoldsBetween lo start × ((f : ℕ → ℚ) × IsBeyond q lo f × (whole (pos 0) ≤ℚ rank_statistic p j f))
  IsLowEnd q start Infinite = (xi : ℚ) → xi ≤ℚ start → Holds p j tau crit xi

  -- what a certificate shows of its high end by the values e: they are inside at a finite end, where
  -- others are beyond; or they are inside at some value, stay optimal above it, and have the least statistic
  abbrev pub IsShownHigh : ℚ → Bound ℚ → (ℕ → ℚ) → Type 0
  IsShownHigh q (Finite hi) e = IsInside q hi e × ((f : ℕ → ℚ) × IsBeyond q hi f × (rank_statistic p j f ≤ℚ whole (pos 0)))
  IsShownHigh q Infinite e =
      (from : ℚ) × IsInside q from e × ((xi : ℚ) → from ≤ℚ xi → IsOptimalAt p j tau xi e)
      × ((f : ℕ → ℚ) → IsFeasibleWithout p j tau f → rank_statistic p j e ≤ℚ rank_statistic p j f)

  -- what it shows of its low end
  abbrev pub IsShownLow : ℚ → Bound ℚ → (ℕ → ℚ) → Type 0
  IsShownLow q (Finite lo) e = IsInside q lo e × ((f : ℕ → ℚ) × IsBeyond q lo f × (whole (pos 0) ≤ℚ rank_statistic p j f))
  IsShownLow q Infinite e =
      (to : ℚ) × IsInside q to e × ((xi : ℚ) → xi ≤ℚ to → IsOptimalAt p j tau xi e)
      × ((f : ℕ → ℚ) → IsFeasibleWithout p j tau f → rank_statistic p j f ≤ℚ rank_statistic p j e)
