use Rattle.std.proofs.Common.{◌≡◌}
use Rattle.rational_laws.specs.Fraction.{rational}
use Rattle.loss_model.specs.Spill.{partial_sum, loss_products}
use Rattle.basis_model.specs.Basis.{coefficient}
use Rattle.fraction_tableau.specs.Views.{sample_at, rows_at, entries_at}
use Rattle.fraction_tableau.proofs.view.BasisView.loss_at.Given as goal

abbrev pub invariant-loop-row : goal.invariant-loop-row
invariant-loop-row g l =
    let value = g.F.Exact.value in
    let p = sample_at value l.self in
    rational (value l.total) ≡ partial_sum (loss_products p (rational (value l.theta)) (coefficient p (rows_at value l.self) (entries_at value l.self))) l.row
