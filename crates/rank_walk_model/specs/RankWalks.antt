-- Stated. The walks of a rank interval over the bases of a problem (Koenker 2005, section 3.5): the rising one
-- gives the high end, and the falling one the low end.
use Rattle.std.specs.Prelude.{◌≡◌, ◌↔◌, ℕ, ◌<◌, false, pos, negsuc}
use Rattle.rational_laws.specs.Rational.{ℚ, ◌*ℚ◌, whole, ◌≤ℚ◌}
use Rattle.loss_model.specs.Sample.{Sample}
use Rattle.pivot_model.specs.declared.direction.Direction.{Direction}
use Rattle.basis_model.specs.Basis.{IsBasis, coefficient}
use Rattle.pivot_model.specs.Duals.{HasCosts}
use Rattle.pivot_model.specs.Steps.{HasNoNegativeSlope, moves}
use Rattle.walk_model.specs.Families.{Family, rising_value, falling_value, dual_in, IsOptimalIn}
use Rattle.walk_model.specs.Walks.{AreExchanged, IsNextBreak, IsWalkingStep}
use Rattle.walk_model.specs.WalkTrails.{is_within}
use Rattle.walk_model.specs.Rays.{ray_up, ray_down}
use Rattle.loss_model.specs.Strict.{◌<ℚ◌}
use Rattle.loss_model.specs.Complements.{IsComplementary, residual_change}
use Rattle.rank_model.specs.Restricted.{rank_statistic, IsProjection, squared_length, rank_bound, Holds}
use Rattle.rank_model.specs.Bounds.{IsAtLeast, IsAtMost, HoldsBetween, IsInside, IsBeyond, IsHighEnd, IsLowEnd}
use Rattle.loss_model.specs.declared.interval.Bound.{Bound}
use Rattle.loss_model.specs.declared.interval.Bound.TheVariants.{Finite, Infinite}

-- the way of a walk: the tested value rises or falls
pub data Way : Type 0 where
  rise : Way
  fall : Way

-- the dual values over what the column weighs, on a way
abbrev pub tested : Way → Sample → ℚ → ℕ → Family
tested rise p tau j = rising_value p tau j
tested fall p tau j = falling_value p tau j

-- all values from the solved coefficient to the present one hold
abbrev pub HoldsTowards : Way → Sample → ℕ → ℚ → ℚ → ℚ → ℚ → Type 0
HoldsTowards rise p j tau crit start present = HoldsBetween p j tau crit start present
HoldsTowards fall p j tau crit start present = HoldsBetween p j tau crit present start

-- the end that a walk leaves: the high one, or the low one
abbrev pub IsEnd : Way → Sample → ℕ → ℚ → ℚ → ℚ → ℚ → Bound ℚ → Type 0
IsEnd rise p j tau crit q start end = IsHighEnd p j tau crit q start end
IsEnd fall p j tau crit q start end = IsLowEnd p j tau crit q start end

-- on which side of 0 a statistic lies that is beyond the bound
abbrev pub IsOnWay : Way → ℚ → Type 0
IsOnWay rise statistic = statistic ≤ℚ whole (pos 0)
IsOnWay fall statistic = whole (pos 0) ≤ℚ statistic

-- the direction of the coefficients as the row at position k leaves: by 1 at column j where it rises, by -1
-- where it falls
abbrev pub ray : Way → (ℕ → ℕ → ℚ) → ℕ → ℕ → ℕ → ℚ
ray rise a j k = ray_up a j k
ray fall a j k = ray_down a j k

-- how far coefficient j goes along it
abbrev pub one_way : Way → ℚ
one_way rise = whole (pos 1)
one_way fall = whole (negsuc 0)

-- a walk that began at the coefficient `start` stands at a basis, which it entered at t: all values up
-- to here hold, no slope is negative at t, and t is within the bound
pub record StandsAt (way : Way) (p : Sample) (j : ℕ) (tau crit : ℚ) (c : ℕ → ℚ) (start : ℚ) (at : ℕ → ℕ) (a : ℕ → ℕ → ℚ) (t : ℚ) : Type 0 where
  pub basis : IsBasis p at a
  pub holds : HoldsTowards way p j tau crit start (coefficient p at a j)
  pub optimal : IsOptimalIn (tested way p tau j) at a t
  pub forward : whole (pos 0) ≤ℚ t
  pub within : (t *ℚ t) ≤ℚ rank_bound tau crit (squared_length p j c)

-- what is fixed for both walks: the column, costs that allow a fit, and a projection of the column
pub record IsTest (p : Sample) (j : ℕ) (tau : ℚ) (c : ℕ → ℚ) : Type 0 where
  pub column : j < p.columns
  pub costs : HasCosts p tau
  pub projection : IsProjection p j c

-- a walk stands at the solved basis
abbrev pub WalkStandsFirst : Type 0
WalkStandsFirst =
    (way : Way) (p : Sample) (j : ℕ) (tau crit : ℚ) (c : ℕ → ℚ) (at : ℕ → ℕ) (a : ℕ → ℕ → ℚ) → IsTest p j tau c
    → IsBasis p at a → HasNoNegativeSlope p at a tau → whole (pos 0) ≤ℚ rank_bound tau crit (squared_length p j c)
    → StandsAt way p j tau crit c (coefficient p at a j) at a (whole (pos 0))

-- and after each step at the next one
abbrev pub WalkStandsNext : Type 0
WalkStandsNext =
    (way : Way) (p : Sample) (j : ℕ) (tau crit : ℚ) (c : ℕ → ℚ) (start : ℚ) (at next : ℕ → ℕ) (a b : ℕ → ℕ → ℚ) (t u : ℚ) (k r : ℕ)
    → IsTest p j tau c → StandsAt way p j tau crit c start at a t
    → IsWalkingStep (tested way p tau j) at a (is_within (rank_bound tau crit (squared_length p j c))) t u k r
    → IsBasis p next b → AreExchanged p.columns at next k r
    → StandsAt way p j tau crit c start next b u

-- the dual values at which it entered the basis are inside at the coefficient there
abbrev pub WalkIsInside : Type 0
WalkIsInside =
    (way : Way) (p : Sample) (j : ℕ) (tau crit : ℚ) (c : ℕ → ℚ) (start : ℚ) (at : ℕ → ℕ) (a : ℕ → ℕ → ℚ) (t : ℚ)
    → IsTest p j tau c → StandsAt way p j tau crit c start at a t
    → IsInside p j tau crit (squared_length p j c) (coefficient p at a j) (dual_in (tested way p tau j) at a t)

-- there is always a next breakpoint
abbrev pub WalkHasBreak : Type 0
WalkHasBreak =
    (way : Way) (p : Sample) (j : ℕ) (tau crit : ℚ) (c : ℕ → ℚ) (start : ℚ) (at : ℕ → ℕ) (a : ℕ → ℕ → ℚ) (t : ℚ)
    → IsTest p j tau c → StandsAt way p j tau crit c start at a t
    → (u : ℚ) × (k : ℕ) × (d : Direction) × IsNextBreak (tested way p tau j) at a t u k d

-- where it is beyond the bound, the coefficient here is the end
abbrev pub WalkEndsHere : Type 0
WalkEndsHere =
    (way : Way) (p : Sample) (j : ℕ) (tau crit : ℚ) (c : ℕ → ℚ) (start : ℚ) (at : ℕ → ℕ) (a : ℕ → ℕ → ℚ) (t u : ℚ) (k : ℕ) (d : Direction)
    → IsTest p j tau c → StandsAt way p j tau crit c start at a t → IsNextBreak (tested way p tau j) at a t u k d
    → rank_bound tau crit (squared_length p j c) <ℚ (u *ℚ u)
    → IsBeyond p j tau crit (squared_length p j c) (coefficient p at a j) (dual_in (tested way p tau j) at a u)
    × IsOnWay way (rank_statistic p j (dual_in (tested way p tau j) at a u))
    × IsEnd way p j tau crit (squared_length p j c) start (Finite (coefficient p at a j))

-- where it is within the bound and no row moves towards 0, there is no end
abbrev pub WalkNeverEnds : Type 0
WalkNeverEnds =
    (way : Way) (p : Sample) (j : ℕ) (tau crit : ℚ) (c : ℕ → ℚ) (start : ℚ) (at : ℕ → ℕ) (a : ℕ → ℕ → ℚ) (t u : ℚ) (k : ℕ) (d : Direction)
    → IsTest p j tau c → StandsAt way p j tau crit c start at a t → IsNextBreak (tested way p tau j) at a t u k d
    → (u *ℚ u) ≤ℚ rank_bound tau crit (squared_length p j c) → ((i : ℕ) → i < p.rows → moves p at a k d i ≡ false)
    → IsInside p j tau crit (squared_length p j c) (coefficient p at a j) (dual_in (tested way p tau j) at a u)
    × IsComplementary p tau (residual_change p (ray way a j k)) (dual_in (tested way p tau j) at a u)
    × (ray way a j k j ≡ one_way way)
    × IsEnd way p j tau crit (squared_length p j c) start Infinite

-- so both ends bound exactly the values that hold
abbrev pub WalksAreExact : Type 0
WalksAreExact =
    (p : Sample) (j : ℕ) (tau crit : ℚ) (c : ℕ → ℚ) (start : ℚ) (low high : Bound ℚ) → IsTest p j tau c
    → IsEnd fall p j tau crit (squared_length p j c) start low → IsEnd rise p j tau crit (squared_length p j c) start high
    → (xi : ℚ) → (IsAtLeast low xi × IsAtMost high xi) ↔ Holds p j tau crit xi
