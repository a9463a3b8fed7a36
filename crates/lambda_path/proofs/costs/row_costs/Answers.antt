use Rattle.std.proofs.Common.{inl, inr, ap, refl, ◌∙◌}
use Rattle.std.proofs.lemmas.Result.{err_from_is_err_and}
use Rattle.tv_penalty.proofs.Overflowing.{fits}
use Rattle.rational_laws.specs.Rational.{◌-ℚ◌}
use Rattle.frac_core.specs.declared.exact.OpKind.TheVariants.{Mul, Sub}
use Rattle.frac_core.specs.Values.{exact}
use Rattle.loss_model.specs.declared.spill.Quantity.TheVariants.{PathCost}
use Rattle.loss_model.specs.Spill.{site_of}
use Rattle.lambda_path.proofs.Overflowing.{spilt}
use Rattle.lambda_path.proofs.costs.row_costs.Goals as goal

pub returns-in_err-left-clause-spill : goal.returns-in_err-left-clause-spill
returns-in_err-left-clause-spill c =
    let q = err_from_is_err_and c.from_residual-in_err-left.result c.from_residual-in_err-left.ensures.1 in
    rw (q.1, q.2)
    (inr (
      fits (site_of PathCost c.args.number 0 1) c.args.weight c.args.tau _ _ refl refl (λ o. let e = c.in_ok-up.ensures.refused.1 o in cc),
      inl (spilt c.new-2.result (site_of PathCost c.args.number 1 1) Sub c.one.result c.args.tau _ _ _ c.new-2.ensures c.one.ensures refl c.in_err-left.ensures.operands (c.in_err-left.ensures.refused.0 refl)),
    ))

pub returns-in_err-down-clause-spill : goal.returns-in_err-down-clause-spill
returns-in_err-down-clause-spill c =
    let q = err_from_is_err_and c.from_residual-in_err-down.result c.from_residual-in_err-down.ensures.1 in
    let left = c.in_ok-left.ensures.exact ∙ ap (λ z. z -ℚ exact c.args.tau) c.one.ensures in
    rw (q.1, q.2)
    (inr (
      fits (site_of PathCost c.args.number 0 1) c.args.weight c.args.tau _ _ refl refl (λ o. let e = c.in_ok-up.ensures.refused.1 o in cc),
      inr (
        fits (record (site_of PathCost c.args.number 1 1) { kind = Sub }) c.one.result c.args.tau _ _ c.one.ensures refl (λ o. let e = c.in_ok-left.ensures.refused.1 o in cc),
        inl (spilt c.new-3.result (site_of PathCost c.args.number 1 2) Mul c.args.weight c.in_ok-left.left _ _ _ c.new-3.ensures refl left c.in_err-down.ensures.operands (c.in_err-down.ensures.refused.0 refl)),
      ),
    ))

pub returns-clause-fits : goal.returns-clause-fits
returns-clause-fits c =
    let left = c.in_ok-left.ensures.exact ∙ ap (λ z. z -ℚ exact c.args.tau) c.one.ensures in (
      fits (site_of PathCost c.args.number 0 1) c.args.weight c.args.tau _ _ refl refl (λ o. let e = c.in_ok-up.ensures.refused.1 o in cc),
      (
        fits (record (site_of PathCost c.args.number 1 1) { kind = Sub }) c.one.result c.args.tau _ _ c.one.ensures refl (λ o. let e = c.in_ok-left.ensures.refused.1 o in cc),
        (fits (site_of PathCost c.args.number 1 2) c.args.weight c.in_ok-left.left _ _ refl left (λ o. let e = c.in_ok-down.ensures.refused.1 o in cc), tt),
      ),
    )
