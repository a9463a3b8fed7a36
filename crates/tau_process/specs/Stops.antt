-- Stated. Why a process over a range of quantiles stops.
use Rattle.std.specs.Prelude.{◌≡◌, ◌⊎◌, ℕ, ◌≤◌, List, length, slice_index}
use Rattle.rational_laws.specs.Fraction.{Fraction}
use Rattle.rational_laws.specs.Rational.{ℚ}
use Rattle.loss_model.specs.declared.problem.Problem.{Problem}
use Rattle.loss_model.specs.declared.process.Trail.{Trail}
use Rattle.loss_model.specs.declared.spill.Spill.{Spill}
use Rattle.loss_model.specs.declared.stop.Stop.{Stop}
use Rattle.loss_model.specs.declared.stop.Stop.TheVariants.{OutOfMemory, PivotLimit, Overflow, Dependent}
use Rattle.loss_model.specs.Problem.{sample}
use Rattle.loss_model.specs.Sample.{Sample}
use Rattle.loss_model.specs.StartStop.{IsStartSpill, IsDependent}
use Rattle.pivot_model.specs.Trails.{AtBasis}
use Rattle.tableau.specs.Solves.{IsSolveSpill}
use Rattle.walk_model.specs.WalkSpills.{IsStaySpill}
use Rattle.walk_model.specs.WalkTrails.{IsProcessTrail, ReachesProcessLimit}

module _ {F : Type 0} (value : F → Fraction) (range : ℕ) (p : Problem F) (lo hi : ℚ) (limit : ℕ) where
  -- an operation of the stay at the last basis of the lawful trail overflows
  pub record IsWalkSpill (trail : Trail) (spill : Spill F) : Type 0 where
    pub basis : List ℕ
    pub now : ℚ
    pub lawful : IsProcessTrail (sample value p) lo hi trail basis now
    pub short : length trail.steps ≤ limit
    pub here : AtBasis (sample value p) basis (λ a. IsStaySpill value range (sample value p) (slice_index basis) a now hi spill)

  -- an operation of the start overflows, of the solve at lo, or of the walk from there
  abbrev pub IsProcessSpill : Trail → Spill F → Type 0
  IsProcessSpill trail spill =
      IsStartSpill value range p trail spill
      ⊎ (IsSolveSpill value range p lo limit trail spill ⊎ IsWalkSpill trail spill)

  -- a limit that is reached, an operation that overflows, or columns that are dependent
  abbrev pub IsProcessStop : Stop F → Type 0
  IsProcessStop OutOfMemory = Unit {0}
  IsProcessStop (PivotLimit shown trail) = (shown ≡ limit) × ReachesProcessLimit (sample value p) lo hi limit trail
  IsProcessStop (Overflow trail spill) = IsProcessSpill trail spill
  IsProcessStop (Dependent combination) = IsDependent value p combination

-- some trail reaches the limit
abbrev pub IsLimited : Sample → ℚ → ℚ → ℕ → Type 0
IsLimited p lo hi limit = (trail : Trail) × ReachesProcessLimit p lo hi limit trail
