use Rattle.std.proofs.Common.{◌≤◌, length, refl, arith}
use Rattle.rq_engine.specs.Digits.{segments_are_readable, segment_is_readable}
use Rattle.rq_engine.proofs.Readable.{tested_all, tested_more}
use Rattle.rq_engine.proofs.digits.segments_are_readable.Goals as goal

pub loop-segment-preserved : goal.loop-segment-preserved
loop-segment-preserved c =
    tested_more segment_is_readable segments_are_readable refl (λ x xs. refl) c.args.segments.now c.loop-segment.segment-index c.segment-item.result c.loop-segment.all c.in_ok-here.here c.both-all.result
    c.loop-segment-test.true c.segment-item.is c.loop-segment.invariant (c.in_ok-here.ensures {u = tt}) c.both-all.ensures

pub returns : goal.returns
returns c =
    let over : length c.args.segments.now ≤ c.loop-segment.segment-index = omega (arith, c.loop-segment-test.false) in
    tested_all segment_is_readable segments_are_readable refl (λ x xs. refl) c.args.segments.now c.loop-segment.segment-index c.loop-segment.all over c.loop-segment.invariant
