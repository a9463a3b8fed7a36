use Rattle.std.proofs.Common.{All, subst, take_all}
use Rattle.std.proofs.lemmas.List.Elements.{All-more}
use Rattle.ratio.specs.Lowest.{IsLowest}
use Rattle.cert_text.specs.Numbers.{SegmentHas}
use Rattle.rq_engine.proofs.lowest.all_lowest_segments.Goals as goal

pub loop-segment-preserved : goal.loop-segment-preserved
loop-segment-preserved c =
    All-more (SegmentHas IsLowest) c.args.segments.now _ c.segment-item.result c.loop-segment-test.true c.loop-segment.invariant (subst (SegmentHas IsLowest) c.segment-item.is c.lowest_segment.ensures)

pub returns : goal.returns
returns c = subst (λ l. All (SegmentHas IsLowest) l) (take_all _ _ c.loop-segment-test.false) c.loop-segment.invariant
