use Rattle.std.proofs.Common.{◌+◌, drop, slice_set, sym, ap, ◌∙◌}
use Rattle.cert_text.specs.Chains.{may_move, moved}
use Rattle.cert_text.proofs.OneByOne.{made}
use Rattle.cert_text.proofs.moves.make_moves.Goals as goal

pub loop-step-preserved : goal.loop-step-preserved
loop-step-preserved c =
    let i = c.loop-step.least in
    let m = c.step-item.result in
    let places = c.loop-step.places.items in
    made _ places c.args.moves.now i c.loop-step.step-index m c.loop-step-test.true c.step-item.is c.loop-step.invariant
    (ap (λ ps. may_move i ps m) (sym c.as_slice.ensures.value) ∙ sym (c.if-not-may_move.ensures {u = tt}))
    ∙ ap (λ q. moved (m.row + 1) (slice_set places m.row q) (drop (c.loop-step.step-index + 1) c.args.moves.now)) (sym c.in_ok-places.ensures)
