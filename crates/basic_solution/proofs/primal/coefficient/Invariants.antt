use Rattle.std.specs.Prelude.{◌≡◌, slice_index}
use Rattle.rational_laws.specs.Fraction.{rational}
use Rattle.loss_model.specs.Problem.{sample}
use Rattle.loss_model.specs.Spill.{partial_sum}
use Rattle.basis_inverse.specs.Square.{inverse_entry}
use Rattle.basis_model.specs.BasisSpills.{coefficient_products}
use Rattle.basic_solution.proofs.primal.coefficient.Given as goal

abbrev pub invariant-loop-position : goal.invariant-loop-position
invariant-loop-position g l =
    rational (g.F.Exact.value l.total)
    ≡ partial_sum (coefficient_products (sample g.F.Exact.value l.problem) (slice_index l.basis.rows) (inverse_entry g.F.Exact.value l.inverse) l.column) l.position
