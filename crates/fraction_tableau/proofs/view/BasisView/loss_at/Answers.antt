use Rattle.std.proofs.Common.{◌≡◌, ◌<◌, length, arith, ap, sym, refl, zero-add}
use Rattle.std.proofs.lemmas.Result.{err_from_is_err_and}
use Rattle.rational_laws.specs.Fraction.{rational}
use Rattle.loss_model.specs.declared.spill.Quantity.TheVariants.{Loss}
use Rattle.loss_model.specs.Spill.{site_of, loss_products}
use Rattle.loss_model.proofs.Products.{step_spill}
use Rattle.loss_model.proofs.Prices.{first_loss, next_loss, whole_loss}
use Rattle.basis_model.specs.Basis.{coefficient}
use Rattle.walk_model.specs.WalkSpills.{of_cost, of_loss}
use Rattle.fraction_tableau.specs.Ends.{end_number}
use Rattle.fraction_tableau.specs.Views.{sample_at, rows_at, entries_at}
use Rattle.fraction_tableau.proofs.view.BasisView.loss_at.Goals as goal

pub loop-row-init : goal.loop-row-init
loop-row-init g c =
    let value = g.F.Exact.value in
    let view = c.args.self.now in
    let p = sample_at value view in
    first_loss p (rational (value c.args.theta)) (coefficient p (rows_at value view) (entries_at value view)) _ c.zero-total.ensures

pub loop-row-preserved : goal.loop-row-preserved
loop-row-preserved g c =
    let value = g.F.Exact.value in
    let view = c.args.self.now in
    let p = sample_at value view in
    next_loss p (rational (value c.args.theta)) (coefficient p (rows_at value view) (entries_at value view)) c.loop-row.row _ _ _ _ _ c.loop-row.invariant
    (c.in_ok-priced.ensures {u = tt}).cost (c.in_ok-priced.ensures {u = tt}).size refl (c.in_ok-total.ensures {u = tt}).exact

pub returns-clause-exact : goal.returns-clause-exact
returns-clause-exact g c =
    let value = g.F.Exact.value in
    let view = c.args.self.now in
    let p = sample_at value view in
    let all : length c.as_slice.result.now ≡ length view.tableau.now.problem.rows = ap length (rw c.problem.ensures at c.as_slice.ensures) in
    let end : c.loop-row.row ≡ length view.tableau.now.problem.rows = omega (arith, all) in
    whole_loss p (rational (value c.args.theta)) (coefficient p (rows_at value view) (entries_at value view)) c.loop-row.row _ end c.loop-row.invariant

pub returns-in_err-priced-clause-spill : goal.returns-in_err-priced-clause-spill
returns-in_err-priced-clause-spill g c =
    let view = c.args.self.now in
    let all : length c.as_slice.result.now ≡ length view.tableau.now.problem.rows = ap length (rw c.problem.ensures at c.as_slice.ensures) in
    let within : c.loop-row.row < length view.tableau.now.problem.rows = omega (arith, all) in
    let returned = err_from_is_err_and c.from_residual.result c.from_residual.ensures.1 in
    rw (returned.1, returned.2) (of_cost c.loop-row.row within (c.in_err-priced.ensures {u = tt}).spill)

pub returns-in_err-total-clause-spill : goal.returns-in_err-total-clause-spill
returns-in_err-total-clause-spill g c =
    let value = g.F.Exact.value in
    let view = c.args.self.now in
    let p = sample_at value view in
    let all : length c.as_slice.result.now ≡ length view.tableau.now.problem.rows = ap length (rw c.problem.ensures at c.as_slice.ensures) in
    let within : c.loop-row.row < length view.tableau.now.problem.rows = omega (arith, all) in
    let priced = c.in_ok-priced.ensures {u = tt} in
    let spilled = rw (c.new-site.ensures, c.number.ensures) at (c.in_err-total.ensures {u = tt}).spilled in
    let returned = err_from_is_err_and c.from_residual-in_err-total.result c.from_residual-in_err-total.ensures.1 in
    rw (returned.1, returned.2)
    (of_loss (step_spill value g.F.Exact.range (site_of Loss (end_number c.args.end) 0 0) (loss_products p (rational (value c.args.theta)) (coefficient p (rows_at value view) (entries_at value view))) c.loop-row.row c.loop-row.row _ _ _ _
    (sym (zero-add c.loop-row.row)) within c.loop-row.invariant priced.cost priced.size spilled))
