use Rattle.std.proofs.Common.{◌≤◌, length, refl, arith}
use Rattle.ratio.specs.Lowest.{IsLowest}
use Rattle.cert_text.specs.Numbers.{segments_are_narrow, SegmentHas, segment_is_narrow}
use Rattle.cert_text.proofs.Walked.{walked_each, walked_more, walked_value}
use Rattle.cert_text.proofs.narrow.segments_are_narrow.Goals as goal

pub loop-segment-preserved : goal.loop-segment-preserved
loop-segment-preserved c =
    walked_more (SegmentHas IsLowest) segment_is_narrow segments_are_narrow refl (λ x xs. refl) c.args.segments.now c.loop-segment.segment-index c.segment-item.result c.loop-segment.all c.segment_is_narrow-here.result c.both-all.result
    c.loop-segment-test.true c.segment-item.is c.loop-segment.invariant c.segment_is_narrow-here.ensures.value c.segment_is_narrow-here.ensures.lowest c.both-all.ensures

pub returns-clause-value : goal.returns-clause-value
returns-clause-value c =
    let over : length c.args.segments.now ≤ c.loop-segment.segment-index = omega (arith, c.loop-segment-test.false) in
    walked_value (SegmentHas IsLowest) segment_is_narrow segments_are_narrow refl (λ x xs. refl) c.args.segments.now c.loop-segment.segment-index c.loop-segment.all over c.loop-segment.invariant

pub returns-clause-lowest : goal.returns-clause-lowest
returns-clause-lowest c =
    let over : length c.args.segments.now ≤ c.loop-segment.segment-index = omega (arith, c.loop-segment-test.false) in
    walked_each (SegmentHas IsLowest) segment_is_narrow segments_are_narrow refl (λ x xs. refl) c.args.segments.now c.loop-segment.segment-index c.loop-segment.all over c.loop-segment.invariant
