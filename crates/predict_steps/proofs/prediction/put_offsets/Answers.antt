use Rattle.std.proofs.Common.{◌≡◌, length, arith, ap, ◌∙◌}
use Rattle.rational_laws.specs.Fraction.{rational}
use Rattle.rational_laws.specs.Rational.{◌+ℚ◌}
use Rattle.rational_laws.specs.RationalSums.{sum_ℚ}
use Rattle.rational_laws.proofs.Signs.{plus-zero}
use Rattle.ratio.specs.Sums.{total}
use Rattle.loss_model.specs.Problem.{value_at}
use Rattle.loss_model.proofs.Products.{value_read}
use Rattle.predict_steps.proofs.Predicted.{term_more}
use Rattle.predict_steps.proofs.prediction.put_offsets.Goals as goal

pub loop-k-init : goal.loop-k-init
loop-k-init g c = plus-zero _

pub loop-k-preserved : goal.loop-k-preserved
loop-k-preserved g c =
    let value = g.F.Exact.value in
    let offsets = c.args.offsets.now in
    term_more (value_at value offsets) (total c.args.terms.now) c.loop-k.k c.loop-k.terms c.add.new.self c.in_ok-term.term c.loop-k.invariant
    (ap rational (c.in_ok-term.ensures {u = tt}) ∙ value_read value offsets c.loop-k.k c.index-offsets-k.result c.loop-k-test.true c.index-offsets-k.is)
    (c.in_ok-add.ensures {u = tt}).added

pub returns : goal.returns
returns g c =
    let offsets = c.args.offsets.now in
    let end : c.loop-k.k ≡ length offsets = omega (arith, c.loop-k-test.false, c.loop-k.auto.k-end) in
    c.loop-k.invariant ∙ ap (λ n. total c.args.terms.now +ℚ sum_ℚ n (value_at g.F.Exact.value offsets)) end
