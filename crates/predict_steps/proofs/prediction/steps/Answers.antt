use Rattle.std.proofs.Common.{ap, ◌∙◌}
use Rattle.rational_laws.specs.Fraction.{rational}
use Rattle.loss_model.proofs.Alike.{one_more_alike}
use Rattle.predict_steps.specs.Predictions.{along, piece, prediction}
use Rattle.predict_steps.proofs.prediction.steps.Goals as goal

pub loop-number-preserved : goal.loop-number-preserved
loop-number-preserved g c =
    let value = g.F.Exact.value in
    let s = c.index-segments-number.result in
    let x = c.args.x.now in
    let offsets = c.args.offsets.now in
    one_more_alike piece (along value x offsets) c.loop-number.made c.add.new.self c.as_slice-segments.result.now c.loop-number.number c.in_ok-step.step s
    c.loop-number-test.true c.index-segments-number.is c.loop-number.invariant
    (ap piece (c.in_ok-step.ensures {u = tt}) ∙ (λ i. record { lo = rational s.lo; hi = rational s.hi; value = ((c.in_ok-value.ensures {u = tt}) ∙ ap (prediction value x offsets) c.as_slice.ensures) i }))
    (c.in_ok-add.ensures {u = tt}).added
