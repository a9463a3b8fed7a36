use Rattle.std.proofs.Common.{◌≡◌, ◌<◌, ℕ, length, arith, ap, ap₂, ◌∙◌}
use Rattle.rational_laws.specs.Rational.{ℚ, ◌+ℚ◌, ◌*ℚ◌}
use Rattle.rational_laws.specs.RationalSums.{sum_ℚ}
use Rattle.rational_laws.proofs.Signs.{plus-zero}
use Rattle.ratio.specs.Sums.{total}
use Rattle.loss_model.specs.Problem.{number_at, value_at}
use Rattle.loss_model.proofs.Products.{value_read}
use Rattle.predict_steps.proofs.Predicted.{term_more}
use Rattle.predict_steps.proofs.prediction.put_products.Goals as goal

pub loop-k-init : goal.loop-k-init
loop-k-init g c = plus-zero _

pub loop-k-preserved : goal.loop-k-preserved
loop-k-preserved g c =
    let value = g.F.Exact.value in
    let x = c.args.x.now in
    let coef = c.args.coef.now in
    let k = c.loop-k.k in
    let inside : k < length coef = omega (arith, c.loop-k-test.true, c.requires) in
    term_more (λ k. value_at value x k *ℚ number_at coef k) (total c.args.terms.now) k c.loop-k.terms c.add.new.self c.in_ok-term.term c.loop-k.invariant
    ((c.in_ok-term.ensures {u = tt})
    ∙ ap₂ ◌*ℚ◌ (value_read value x k c.index-x-k.result c.loop-k-test.true c.index-x-k.is) (value_read (λ x. x) coef k c.index-coef-k.result inside c.index-coef-k.is))
    (c.in_ok-add.ensures {u = tt}).added

pub returns : goal.returns
returns g c =
    let value = g.F.Exact.value in
    let terms : ℕ → ℚ = λ k. value_at value c.args.x.now k *ℚ number_at c.args.coef.now k in
    let end : c.loop-k.k ≡ length c.args.x.now = omega (arith, c.loop-k-test.false, c.loop-k.auto.k-end) in
    c.loop-k.invariant ∙ ap (λ n. total c.args.terms.now +ℚ sum_ℚ n terms) end
