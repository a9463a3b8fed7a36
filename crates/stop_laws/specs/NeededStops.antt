-- Law. A stop of the solver was needed.
use Rattle.std.specs.Prelude.{ℕ, ◌*◌, ◌<◌, ⊤}
use Rattle.rational_laws.specs.Fraction.{Fraction}
use Rattle.rational_laws.specs.Rational.{ℚ}
use Rattle.frac_core.specs.Overflow.{Overflows}
use Rattle.loss_model.specs.declared.problem.Problem.{Problem}
use Rattle.loss_model.specs.declared.spill.Spill.{Spill}
use Rattle.loss_model.specs.declared.stop.Stop.{Stop}
use Rattle.loss_model.specs.declared.stop.Stop.TheVariants.{OutOfMemory, PivotLimit, Overflow, Dependent}
use Rattle.loss_model.specs.FullRank.{HasFullRank}
use Rattle.loss_model.specs.Problem.{sample}
use Rattle.pivot_model.specs.Duals.{HasCosts}
use Rattle.tau_process.specs.Solves.{IsSolveStop, IsLimited}
use Rattle.tau_process.specs.Stops.{IsProcessStop, IsLimited as IsProcessLimited}
use Rattle.pivot_laws.specs.BoundLaws.{further_bases}

-- the operation that a spill names overflows on its operands
abbrev pub DoesOverflow : {F : Type 0} → (F → Fraction) → ℕ → Spill F → Type 0
DoesOverflow value range s = Overflows range s.site.kind (value s.left) (value s.right)

-- a limit that is below so many pivots, an operation that overflows, or columns that are dependent
abbrev pub IsNeeded : {F : Type 0} → (F → Fraction) → ℕ → Problem F → ℕ → Stop F → Type 0
IsNeeded value range p pivots OutOfMemory = ⊤
IsNeeded value range p pivots (PivotLimit limit trail) = limit < pivots
IsNeeded value range p pivots (Overflow trail spill) = DoesOverflow value range spill
IsNeeded value range p pivots (Dependent combination) = ¬ HasFullRank (sample value p)

-- a solve needs no more pivots than there are bases after the first
abbrev pub SolveStopIsNeeded : {F : Type 0} → (F → Fraction) → ℕ → Problem F → Type 0
SolveStopIsNeeded {F} value range p =
    (theta : ℚ) (limit : ℕ) (stop : Stop F) → HasCosts (sample value p) theta
    → IsSolveStop value range p theta limit stop → IsNeeded value range p (further_bases (sample value p)) stop

-- and a process no more than twice that
abbrev pub ProcessStopIsNeeded : {F : Type 0} → (F → Fraction) → ℕ → Problem F → Type 0
ProcessStopIsNeeded {F} value range p =
    (lo hi : ℚ) (limit : ℕ) (stop : Stop F) → HasCosts (sample value p) lo
    → IsProcessStop value range p lo hi limit stop → IsNeeded value range p (2 * further_bases (sample value p)) stop

-- where a trail of a solve reaches a limit, no columns are dependent: the limit is what stops it
abbrev pub LimitedSolveHasFullRank : {F : Type 0} → (F → Fraction) → Problem F → Type 0
LimitedSolveHasFullRank value p =
    (theta : ℚ) (limit : ℕ) → IsLimited (sample value p) theta limit → HasFullRank (sample value p)

-- and where one of a process does
abbrev pub LimitedProcessHasFullRank : {F : Type 0} → (F → Fraction) → Problem F → Type 0
LimitedProcessHasFullRank value p =
    (lo hi : ℚ) (limit : ℕ) → IsProcessLimited (sample value p) lo hi limit → HasFullRank (sample value p)
