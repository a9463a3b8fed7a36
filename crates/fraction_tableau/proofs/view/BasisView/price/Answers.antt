use Rattle.std.proofs.Common.{arith, sym, inl, inr, ◌∙◌, pos, ◌≤ℤ◌}
use Rattle.std.proofs.lemmas.Result.{err_from_is_err_and}
use Rattle.std.proofs.lemmas.Int.{ints}
use Rattle.loss_model.proofs.Prices.{sign_above, sign_up, sign_below, cost_up, size_up}
use Rattle.fraction_tableau.proofs.view.BasisView.price.Goals as goal

pub returns-in_ok-cost-2-clause-cost : goal.returns-in_ok-cost-2-clause-cost
returns-in_ok-cost-2-clause-cost g c =
    let above : pos 0 ≤ℤ c.sign.result = omega (arith, ints) in
    (c.in_ok-cost-2.ensures {u = tt}).exact ∙ sym (cost_up _ _ _ _ c.residual-residual.ensures (sign_above _ c.sign.result c.sign.ensures above))

pub returns-in_ok-cost-2-clause-size : goal.returns-in_ok-cost-2-clause-size
returns-in_ok-cost-2-clause-size g c =
    let above : pos 0 ≤ℤ c.sign.result = omega (arith, ints) in
    size_up _ _ c.residual-residual.ensures (sign_above _ c.sign.result c.sign.ensures above)

pub returns-in_err-cost-clause-spill : goal.returns-in_err-cost-clause-spill
returns-in_err-cost-clause-spill g c =
    let p = err_from_is_err_and c.from_residual.result c.from_residual.ensures.1 in
    let below : ¬ (pos 0 ≤ℤ c.sign.result) = λ h. omega (arith, ints, h) in
    rw (p.1, p.2) (inr (sign_below _ _ c.sign.result c.residual-residual.ensures c.sign.ensures below, (c.in_err-cost.ensures {u = tt}).spill))

pub returns-in_err-cost-2-clause-spill : goal.returns-in_err-cost-2-clause-spill
returns-in_err-cost-2-clause-spill g c =
    let p = err_from_is_err_and c.from_residual-in_err-cost-2.result c.from_residual-in_err-cost-2.ensures.1 in
    let above : pos 0 ≤ℤ c.sign.result = omega (arith, ints) in
    rw (p.1, p.2) (inl (sign_up _ _ c.sign.result c.residual-residual.ensures c.sign.ensures above, (c.in_err-cost-2.ensures {u = tt}).spill))
