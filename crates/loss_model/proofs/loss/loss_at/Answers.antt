use Rattle.std.proofs.Common.{◌≡◌, ◌<◌, length, arith, ap, sym, refl, inl, inr, zero-add}
use Rattle.std.proofs.lemmas.Result.{err_from_is_err_and}
use Rattle.rational_laws.specs.Fraction.{rational}
use Rattle.loss_model.specs.Problem.{value_at, sample}
use Rattle.loss_model.specs.declared.spill.Quantity.TheVariants.{Loss}
use Rattle.loss_model.specs.Spill.{site_of, loss_products}
use Rattle.loss_model.proofs.Products.{step_spill}
use Rattle.loss_model.proofs.Prices.{first_loss, next_loss, whole_loss}
use Rattle.loss_model.proofs.loss.loss_at.Goals as goal

pub loop-row-init : goal.loop-row-init
loop-row-init g c =
    let v = g.F.Exact.value in
    first_loss (sample v c.args.problem.now) (rational (v c.args.theta)) (value_at v c.args.coef.now) _ c.zero-total.ensures

pub returns-in_err-priced-clause-spilled : goal.returns-in_err-priced-clause-spilled
returns-in_err-priced-clause-spilled g c =
    let p = err_from_is_err_and c.from_residual.result c.from_residual.ensures.1 in
    let within : c.loop-row.row < length c.args.problem.now.rows = omega (arith, ap length c.as_slice.ensures) in
    rw (p.1, p.2) (inl (c.loop-row.row, within, (c.in_err-priced.ensures {u = tt}).spilled))

pub loop-row-preserved : goal.loop-row-preserved
loop-row-preserved g c =
    let v = g.F.Exact.value in
    next_loss (sample v c.args.problem.now) (rational (v c.args.theta)) (value_at v c.args.coef.now) c.loop-row.row _ _ _ _ _ c.loop-row.invariant
    (c.in_ok-priced.ensures {u = tt}).cost (c.in_ok-priced.ensures {u = tt}).size refl (c.in_ok-total.ensures {u = tt}).exact

pub returns-clause-exact : goal.returns-clause-exact
returns-clause-exact g c =
    let v = g.F.Exact.value in
    let all : length c.as_slice.result.now ≡ length c.args.problem.now.rows = ap length c.as_slice.ensures in
    let end : c.loop-row.row ≡ length c.args.problem.now.rows = omega arith in
    whole_loss (sample v c.args.problem.now) (rational (v c.args.theta)) (value_at v c.args.coef.now) c.loop-row.row _ end c.loop-row.invariant

pub returns-in_err-total-clause-spilled : goal.returns-in_err-total-clause-spilled
returns-in_err-total-clause-spilled g c =
    let v = g.F.Exact.value in
    let p = err_from_is_err_and c.from_residual-in_err-total.result c.from_residual-in_err-total.ensures.1 in
    let priced = c.in_ok-priced.ensures {u = tt} in
    let within : c.loop-row.row < length c.args.problem.now.rows = omega (arith, ap length c.as_slice.ensures) in
    let spilled = rw c.new-site.ensures at (c.in_err-total.ensures {u = tt}).spilled in
    rw (p.1, p.2)
    (inr (step_spill v g.F.Exact.range (site_of Loss 0 0 0) (loss_products (sample v c.args.problem.now) (rational (v c.args.theta)) (value_at v c.args.coef.now)) c.loop-row.row c.loop-row.row _ _ _ _
    (sym (zero-add c.loop-row.row)) within c.loop-row.invariant priced.cost priced.size spilled))
