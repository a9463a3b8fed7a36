use Rattle.std.proofs.Common.{arith, ap, sym, inl, inr, ◌∙◌, pos, ◌≤ℤ◌}
use Rattle.std.proofs.lemmas.Result.{err_from_is_err_and}
use Rattle.std.proofs.lemmas.Int.{ints}
use Rattle.rational_laws.specs.Rational.{neg_ℚ}
use Rattle.loss_model.proofs.Prices.{sign_above, sign_up, sign_below, cost_up, size_up, cost_down}
use Rattle.loss_model.proofs.loss.price.Goals as goal

pub returns-in_err-residual-clause-spilled : goal.returns-in_err-residual-clause-spilled
returns-in_err-residual-clause-spilled g c =
    let p = err_from_is_err_and c.from_residual.result c.from_residual.ensures.1 in
    rw (p.1, p.2) (inl (c.in_err-residual.ensures {u = tt}).spilled)

pub returns-in_ok-cost-clause-cost : goal.returns-in_ok-cost-clause-cost
returns-in_ok-cost-clause-cost g c =
    let below : ¬ (pos 0 ≤ℤ c.sign.result) = λ h. omega (arith, ints, h) in
    (c.in_ok-cost.ensures {u = tt}).exact ∙ sym (cost_down _ _ _ (sign_below _ _ c.sign.result (c.in_ok-residual.ensures {u = tt}).exact c.sign.ensures below))

pub returns-in_ok-cost-clause-size : goal.returns-in_ok-cost-clause-size
returns-in_ok-cost-clause-size g c =
    let below : ¬ (pos 0 ≤ℤ c.sign.result) = λ h. omega (arith, ints, h) in
    c.neg-size.ensures ∙ ap neg_ℚ (c.in_ok-residual.ensures {u = tt}).exact
    ∙ sym (cost_down _ _ _ (sign_below _ _ c.sign.result (c.in_ok-residual.ensures {u = tt}).exact c.sign.ensures below))

pub returns-in_ok-cost-2-clause-cost : goal.returns-in_ok-cost-2-clause-cost
returns-in_ok-cost-2-clause-cost g c =
    let above : pos 0 ≤ℤ c.sign.result = omega (arith, ints) in
    (c.in_ok-cost-2.ensures {u = tt}).exact ∙ sym (cost_up _ _ _ _ (c.in_ok-residual.ensures {u = tt}).exact (sign_above _ c.sign.result c.sign.ensures above))

pub returns-in_ok-cost-2-clause-size : goal.returns-in_ok-cost-2-clause-size
returns-in_ok-cost-2-clause-size g c =
    let above : pos 0 ≤ℤ c.sign.result = omega (arith, ints) in
    size_up _ _ (c.in_ok-residual.ensures {u = tt}).exact (sign_above _ c.sign.result c.sign.ensures above)

pub returns-in_err-cost-clause-spilled : goal.returns-in_err-cost-clause-spilled
returns-in_err-cost-clause-spilled g c =
    let p = err_from_is_err_and c.from_residual-in_err-cost.result c.from_residual-in_err-cost.ensures.1 in
    let below : ¬ (pos 0 ≤ℤ c.sign.result) = λ h. omega (arith, ints, h) in
    rw (p.1, p.2)
    (inr (inr (sign_below _ _ c.sign.result (c.in_ok-residual.ensures {u = tt}).exact c.sign.ensures below, (c.in_err-cost.ensures {u = tt}).spilled)))

pub returns-in_err-cost-2-clause-spilled : goal.returns-in_err-cost-2-clause-spilled
returns-in_err-cost-2-clause-spilled g c =
    let p = err_from_is_err_and c.from_residual-in_err-cost-2.result c.from_residual-in_err-cost-2.ensures.1 in
    let above : pos 0 ≤ℤ c.sign.result = omega (arith, ints) in
    rw (p.1, p.2)
    (inr (inl (sign_up _ _ c.sign.result (c.in_ok-residual.ensures {u = tt}).exact c.sign.ensures above, (c.in_err-cost-2.ensures {u = tt}).spilled)))
