use Rattle.std.specs.Prelude.{slice_index}
use Rattle.loss_model.specs.Problem.{sample}
use Rattle.basis_inverse.specs.Square.{inverse_entry}
use Rattle.basis_model.specs.Basis.{side_at}
use Rattle.loss_model.specs.Sides.{side_in}
use Rattle.basic_solution.proofs.Filled.{IsFilled}
use Rattle.basic_solution.proofs.signs.sides.Given as goal

abbrev pub invariant-loop-row : goal.invariant-loop-row
invariant-loop-row g l = IsFilled side_in (side_at (sample g.F.Exact.value l.problem) (slice_index l.basis.rows) (inverse_entry g.F.Exact.value l.inverse)) l.made l.row
