use Rattle.loss_model.specs.Problem.{value_at, sample}
use Rattle.basis_inverse.specs.Square.{inverse_entry}
use Rattle.basis_model.specs.Basis.{coord}
use Rattle.basic_solution.proofs.Filled.{IsFilled}
use Rattle.basic_solution.proofs.coordinates.row_coordinates.Given as goal

abbrev pub invariant-loop-position : goal.invariant-loop-position
invariant-loop-position g l = IsFilled (value_at g.F.Exact.value) (coord (sample g.F.Exact.value l.problem) (inverse_entry g.F.Exact.value l.inverse) l.row) l.made l.position
