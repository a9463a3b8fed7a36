-- Stated. Why a rank interval stops: the trail at each moment, and the operation that overflows there.
use Rattle.std.specs.Prelude.{◌≡◌, ◌⊎◌, ℕ, ◌<◌, ◌+◌, ◌≤◌, false, List, [], length, slice_index, pos}
use Rattle.rational_laws.specs.Fraction.{Fraction}
use Rattle.rational_laws.specs.Rational.{ℚ, ◌*ℚ◌, whole, ◌≤ℚ◌}
use Rattle.frac_core.specs.declared.exact.OpKind.TheVariants.{Div}
use Rattle.loss_model.specs.declared.problem.Problem.{Problem}
use Rattle.loss_model.specs.declared.process.Exchange.{Exchange}
use Rattle.loss_model.specs.declared.process.Trail.{Trail}
use Rattle.loss_model.specs.declared.spill.Quantity.TheVariants.{Statistic, Ray}
use Rattle.loss_model.specs.declared.spill.Spill.{Spill}
use Rattle.loss_model.specs.declared.stop.Stop.{Stop}
use Rattle.loss_model.specs.declared.stop.Stop.TheVariants.{OutOfMemory, PivotLimit, Overflow, Dependent}
use Rattle.loss_model.specs.Sample.{Sample}
use Rattle.loss_model.specs.Problem.{sample}
use Rattle.loss_model.specs.Spill.{IsOperation, site_of}
use Rattle.loss_model.specs.StartStop.{IsStartSpill, IsDependent}
use Rattle.pivot_model.specs.declared.direction.Direction.{Direction}
use Rattle.pivot_model.specs.Steps.{moves}
use Rattle.pivot_model.specs.Trails.{AtBasis, basis_after}
use Rattle.walk_model.specs.Walks.{IsNextBreak}
use Rattle.walk_model.specs.WalkTrails.{value_after, is_within, IsIntervalTrail, HasRisen, ReachesIntervalLimit}
use Rattle.walk_model.specs.WalkSpills.{IsTestedSpill}
use Rattle.rank_model.specs.Restricted.{IsProjection, squared_length, rank_bound}
use Rattle.rank_walk_model.specs.RankWalks.{Way, rise, fall, tested}
use Rattle.rank_walk_model.specs.Crossings.{parameter_of}
use Rattle.rank_walk_model.specs.Intervals.{when_on}
use Rattle.br_pivot.specs.Solves.{IsSolveSpill}
use Rattle.rank_inversion.specs.GramStops.{IsGramSpillAfter, IsTestSpillAfter}

-- at a basis of a walk, which it entered at `from`: an operation of the walk of a tested value; the square of
-- what the column weighs at the next breakpoint; or, where no row moves there, an entry of the ray
pub data IsRankSpill {F : Type 0} (value : F → Fraction) (range : ℕ) (way : Way) (p : Sample) (j : ℕ) (tau bound : ℚ) (at : ℕ → ℕ) (a : ℕ → ℕ → ℚ) (from : ℚ)
    (s : Spill F) : Type 0 where
  of_walk : IsTestedSpill value range (tested way p tau j) (parameter_of way) tau j at a bound from s → IsRankSpill value range way p j tau bound at a from s
  of_square : (t : ℚ) (k : ℕ) (d : Direction) → IsNextBreak (tested way p tau j) at a from t k d
      → IsOperation value range (site_of Statistic 0 0 1) (parameter_of way t) (parameter_of way t) s → IsRankSpill value range way p j tau bound at a from s
  of_ray : (t : ℚ) (k : ℕ) (d : Direction) (m : ℕ) → IsNextBreak (tested way p tau j) at a from t k d → (t *ℚ t) ≤ℚ bound
      → ((i : ℕ) → i < p.rows → moves p at a k d i ≡ false) → m < p.columns
      → IsOperation value range (record (site_of Ray m k 1) { kind = Div }) (a m k) (a j k) s → IsRankSpill value range way p j tau bound at a from s

module _ {F : Type 0} (value : F → Fraction) (range : ℕ) (p : Problem F) (j : ℕ) (tau bound : ℚ) where
  -- at the basis to which the steps of a walk have led from the solved one
  abbrev pub IsRankSpillAfter : Way → List ℕ → List Exchange → Spill F → Type 0
  IsRankSpillAfter way solved steps s =
      AtBasis (sample value p) (basis_after solved steps)
      (λ a. IsRankSpill value range way (sample value p) j tau bound (slice_index (basis_after solved steps)) a
      (value_after (when_on way) (tested way (sample value p) tau j) (is_within bound) (whole (pos 0)) steps) s)

  -- at the last basis of the trail: of the rising walk, or, where that is at its end, of the falling one
  abbrev pub IsAtWalk : List ℕ → Trail → Spill F → Type 0
  IsAtWalk solved trail s =
      ((trail.fall ≡ []) × IsRankSpillAfter rise solved trail.rise s)
      ⊎ (HasRisen (sample value p) tau j bound trail solved × IsRankSpillAfter fall solved trail.fall s)

  -- with a lawful trail within the limit
  pub record IsWalkSpillAfter (limit : ℕ) (trail : Trail) (s : Spill F) : Type 0 where
    pub solved : List ℕ
    pub lawful : IsIntervalTrail (sample value p) tau j bound trail solved
    pub short : length trail.steps + length trail.rise + length trail.fall ≤ limit
    pub here : IsAtWalk solved trail s

-- ---- all

module _ {F : Type 0} (value : F → Fraction) (p : Problem F) (j : ℕ) (tau crit : ℚ) where
  -- this is the bound on the squared statistic, by a projection of column j
  abbrev pub IsBound : ℚ → Type 0
  IsBound bound = (c : ℕ → ℚ) × IsProjection (sample value p) j c × (bound ≡ rank_bound tau crit (squared_length (sample value p) j c))

  -- some trail reaches the limit
  abbrev pub IsLimited : ℕ → Type 0
  IsLimited limit = (bound : ℚ) × IsBound bound × ((trail : Trail) × ReachesIntervalLimit (sample value p) tau j bound limit trail)

module _ {F : Type 0} (value : F → Fraction) (range : ℕ) (p : Problem F) (j : ℕ) (tau crit : ℚ) (limit : ℕ) where
  -- a trail in the walks reaches the limit, or an operation overflows there
  abbrev pub IsWalkStop : Stop F → Type 0
  IsWalkStop OutOfMemory = Unit {0}
  IsWalkStop (PivotLimit shown trail) =
      (shown ≡ limit) × ((bound : ℚ) × IsBound value p j tau crit bound × ReachesIntervalLimit (sample value p) tau j bound limit trail)
  IsWalkStop (Overflow trail s) = (bound : ℚ) × IsBound value p j tau crit bound × IsWalkSpillAfter value range p j tau bound limit trail s
  IsWalkStop (Dependent combination) = ⊥

  -- an operation overflows before the solve, in its start, in the solve, or in a walk
  abbrev pub IsIntervalSpill : Trail → Spill F → Type 0
  IsIntervalSpill trail s =
      IsGramSpillAfter value range p trail s
      ⊎ (IsTestSpillAfter value range p j tau crit trail s
      ⊎ (IsStartSpill value range p trail s
      ⊎ (IsSolveSpill value range p tau limit trail s
      ⊎ ((bound : ℚ) × IsBound value p j tau crit bound × IsWalkSpillAfter value range p j tau bound limit trail s))))

  -- why an interval stops: a limit that is reached, an operation that overflows, or columns that are dependent.
  -- Want of memory is free of a cause
  abbrev pub IsIntervalStop : Stop F → Type 0
  IsIntervalStop OutOfMemory = Unit {0}
  IsIntervalStop (PivotLimit shown trail) =
      (shown ≡ limit) × ((bound : ℚ) × IsBound value p j tau crit bound × ReachesIntervalLimit (sample value p) tau j bound limit trail)
  IsIntervalStop (Overflow trail s) = IsIntervalSpill trail s
  IsIntervalStop (Dependent combination) = IsDependent value p combination
