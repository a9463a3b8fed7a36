use Rattle.std.specs.Prelude.{slice_index}
use Rattle.loss_model.specs.Problem.{value_at, sample}
use Rattle.basis_inverse.specs.Square.{inverse_entry}
use Rattle.basis_model.specs.Basis.{coefficient}
use Rattle.basic_solution.proofs.Filled.{IsFilled}
use Rattle.basic_solution.proofs.primal.coefficients.Given as goal

abbrev pub invariant-loop-column : goal.invariant-loop-column
invariant-loop-column g l = IsFilled (value_at g.F.Exact.value) (coefficient (sample g.F.Exact.value l.problem) (slice_index l.basis.rows) (inverse_entry g.F.Exact.value l.inverse)) l.made l.column
