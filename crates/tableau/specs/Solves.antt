-- Stated. Why a solve at one quantile stops, and when it reaches its limit.
use Rattle.std.specs.Prelude.{◌≡◌, ◌⊎◌, ℕ, ◌≤◌, List, length, slice_index}
use Rattle.std.proofs.Common.{Result, Ok, Err}
use Rattle.rational_laws.specs.Fraction.{Fraction}
use Rattle.rational_laws.specs.Rational.{ℚ}
use Rattle.loss_model.specs.declared.problem.Problem.{Problem}
use Rattle.loss_model.specs.declared.process.Trail.{Trail}
use Rattle.loss_model.specs.declared.spill.Spill.{Spill}
use Rattle.loss_model.specs.declared.stop.Stop.{Stop}
use Rattle.loss_model.specs.declared.stop.Stop.TheVariants.{OutOfMemory, PivotLimit, Overflow, Dependent}
use Rattle.loss_model.specs.Sample.{Sample}
use Rattle.loss_model.specs.Problem.{sample}
use Rattle.loss_model.specs.StartStop.{IsStartSpill, IsDependent}
use Rattle.pivot_model.specs.Spills.{IsStepSpill}
use Rattle.pivot_model.specs.Trails.{AtBasis, IsSolvingTrail, ReachesLimit}

-- an operation at the last basis of the lawful trail overflows
pub record IsSolveSpill {F : Type 0} (value : F → Fraction) (range : ℕ) (p : Problem F) (theta : ℚ) (limit : ℕ) (trail : Trail)
    (spill : Spill F) : Type 0 where
  pub basis : List ℕ
  pub lawful : IsSolvingTrail (sample value p) theta trail basis
  pub short : length trail.steps ≤ limit
  pub here : AtBasis (sample value p) basis (λ a. IsStepSpill value range (sample value p) (slice_index basis) a theta spill)

-- why a solve stops: a limit that is reached, an operation in the start or at the last basis that
-- overflows, or columns that are dependent
abbrev pub IsSolveStop : {F : Type 0} → (F → Fraction) → ℕ → Problem F → ℚ → ℕ → Stop F → Type 0
IsSolveStop value range p theta limit OutOfMemory = Unit {0}
IsSolveStop value range p theta limit (PivotLimit shown trail) =
    (shown ≡ limit) × ReachesLimit (sample value p) theta limit trail
IsSolveStop value range p theta limit (Overflow trail spill) =
    IsStartSpill value range p trail spill ⊎ IsSolveSpill value range p theta limit trail spill
IsSolveStop value range p theta limit (Dependent combination) = IsDependent value p combination

-- some trail reaches the limit
abbrev pub IsLimited : Sample → ℚ → ℕ → Type 0
IsLimited p theta limit = (trail : Trail) × ReachesLimit p theta limit trail

-- an answer where a trail reaches the limit: PivotLimit, or an overflow or want of memory before
abbrev pub IsLimitAnswer : {A F : Type 0} → Result A (Stop F) → Type 0
IsLimitAnswer (Ok solved) = ⊥
IsLimitAnswer (Err (Dependent combination)) = ⊥
IsLimitAnswer other = Unit {0}
