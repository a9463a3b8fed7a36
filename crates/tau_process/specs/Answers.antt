-- Inner. What is answered to a walk over a range.
use Rattle.std.specs.Prelude.{ℕ, ◌≤◌, length, IfOk, IfErr}
use Rattle.std.proofs.Common.{Result}
use Rattle.rational_laws.specs.Fraction.{Fraction}
use Rattle.rational_laws.specs.Rational.{ℚ}
use Rattle.loss_model.specs.declared.problem.Problem.{Problem}
use Rattle.loss_model.specs.declared.process.Process.{Process}
use Rattle.loss_model.specs.declared.stop.Stop.{Stop}
use Rattle.loss_model.specs.Problem.{sample}
use Rattle.tableau.specs.Solves.{IsLimitAnswer}
use Rattle.tau_process.specs.Processes.{IsProcess}
use Rattle.tau_process.specs.Stops.{IsProcessStop, IsLimited}

module _ {F : Type 0} (value : F → Fraction) (p : Problem F) (lo hi : ℚ) (limit : ℕ) where
  -- a process within the limit
  pub record IsWithin (q : Process) : Type 0 where
    pub process : IsProcess value p lo hi q
    pub short : length q.trail.steps ≤ limit

-- such a process, or a stop with its cause; and neither a process nor a dependence where a trail reaches the limit
pub record IsAnswer {F : Type 0} (value : F → Fraction) (range : ℕ) (p : Problem F) (lo hi : ℚ) (limit : ℕ) (r : Result Process (Stop F)) : Type 0 where
  pub process : IfOk r (IsWithin value p lo hi limit)
  pub stopped : IfErr r (IsProcessStop value range p lo hi limit)
  pub limited : IsLimited (sample value p) lo hi limit → IsLimitAnswer r
