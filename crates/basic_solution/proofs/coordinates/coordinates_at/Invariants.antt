use Rattle.loss_model.specs.Problem.{value_at, sample}
use Rattle.basis_inverse.specs.Square.{inverse_entry}
use Rattle.basis_model.specs.Basis.{coord}
use Rattle.basic_solution.proofs.Filled.{IsFilled}
use Rattle.basic_solution.proofs.coordinates.coordinates_at.Given as goal

abbrev pub invariant-loop-row : goal.invariant-loop-row
invariant-loop-row g l = IsFilled (value_at g.F.Exact.value) (λ i. coord (sample g.F.Exact.value l.problem) (inverse_entry g.F.Exact.value l.inverse) i l.position) l.made l.row
