use Rattle.loss_model.specs.Problem.{value_at, sample}
use Rattle.basis_model.specs.Basis.{nonbasic_total}
use Rattle.loss_model.specs.Sides.{side_in}
use Rattle.basic_solution.proofs.Filled.{IsFilled}
use Rattle.basic_solution.proofs.columns.totals.Given as goal

abbrev pub invariant-loop-column : goal.invariant-loop-column
invariant-loop-column g l = IsFilled (value_at g.F.Exact.value) (nonbasic_total (sample g.F.Exact.value l.problem) (side_in l.sides) l.part) l.made l.column
