use Rattle.std.proofs.Common.{[], length, refl, ap, ◌∙◌}
use Rattle.rational_laws.specs.Rational.{◌+ℚ◌}
use Rattle.rational_laws.specs.RationalSums.{sum_ℚ}
use Rattle.rational_laws.proofs.RationalLaws.{zero-+ℚ}
use Rattle.ratio.specs.Sums.{total}
use Rattle.ratio.proofs.Totals.{total-none}
use Rattle.loss_model.specs.Problem.{value_at}
use Rattle.predict_steps.specs.Predictions.{fitted}
use Rattle.predict_steps.proofs.prediction.prediction.Goals as goal

pub returns : goal.returns
returns g c =
    let value = g.F.Exact.value in
    let first = fitted value c.args.x.now c.args.coef.now in
    (c.in_ok-value.ensures {u = tt}) ∙ ap total c.as_slice.ensures ∙ (c.in_ok-put_offsets.ensures {u = tt})
    ∙ ap (λ z. z +ℚ sum_ℚ (length c.args.offsets.now) (value_at value c.args.offsets.now))
    ((c.in_ok-put_products.ensures {u = tt}) ∙ ap (λ z. z +ℚ first) (ap total c.new-terms.ensures ∙ total-none [] refl) ∙ zero-+ℚ first)
