use Rattle.loss_model.specs.Sample.{residual}
use Rattle.loss_model.specs.Problem.{value_at, sample}
use Rattle.basic_solution.proofs.Filled.{IsFilled}
use Rattle.basic_solution.proofs.primal.residuals.Given as goal

abbrev pub invariant-loop-row : goal.invariant-loop-row
invariant-loop-row g l = IsFilled (value_at g.F.Exact.value) (residual (sample g.F.Exact.value l.problem) (value_at g.F.Exact.value l.coef)) l.made l.row
