-- Inner. What is answered to a solve.
use Rattle.std.specs.Prelude.{ℕ, ◌≤◌, length, IfOk, IfErr}
use Rattle.std.proofs.Common.{Result}
use Rattle.rational_laws.specs.Fraction.{Fraction}
use Rattle.rational_laws.specs.Rational.{ℚ}
use Rattle.loss_model.specs.declared.problem.Problem.{Problem}
use Rattle.loss_model.specs.declared.stop.Stop.{Stop}
use Rattle.loss_model.specs.Problem.{sample}
use Rattle.br_pivot.specs.declared.solve.Solved.{Solved}
use Rattle.br_pivot.specs.Solutions.{IsSolution}
use Rattle.br_pivot.specs.Solves.{IsSolveStop, IsLimited, IsLimitAnswer}

module _ {F : Type 0} (value : F → Fraction) where
  -- a solution within the limit
  pub record IsOptimum (p : Problem F) (theta : ℚ) (limit : ℕ) (s : Solved F) : Type 0 where
    pub solution : IsSolution value p theta s
    pub short : length s.trail.steps ≤ limit

  -- such a solution, or a stop with its cause; and neither a solution nor a dependence where a trail reaches the limit
  pub record IsAnswer (range : ℕ) (p : Problem F) (theta : ℚ) (limit : ℕ) (r : Result (Solved F) (Stop F)) : Type 0 where
    pub optimum : IfOk r (IsOptimum p theta limit)
    pub stopped : IfErr r (IsSolveStop value range p theta limit)
    pub limited : IsLimited (sample value p) theta limit → IsLimitAnswer r
