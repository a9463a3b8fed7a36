use Rattle.std.specs.Prelude.{length}
use Rattle.loss_model.specs.Problem.{value_at}
use Rattle.basis_inverse.specs.Square.{inverse_entry}
use Rattle.basis_model.specs.Basis.{balancing}
use Rattle.basic_solution.proofs.Filled.{IsFilled}
use Rattle.basic_solution.proofs.duals.balancing_values.Given as goal

abbrev pub invariant-loop-position : goal.invariant-loop-position
invariant-loop-position g l = IsFilled (value_at g.F.Exact.value) (balancing (length l.totals) (inverse_entry g.F.Exact.value l.inverse) (value_at g.F.Exact.value l.totals)) l.made l.position
