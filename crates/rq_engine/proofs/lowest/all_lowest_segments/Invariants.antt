use Rattle.std.proofs.Common.{All, take}
use Rattle.ratio.specs.Lowest.{IsLowest}
use Rattle.cert_text.specs.Numbers.{SegmentHas}
use Rattle.rq_engine.proofs.lowest.all_lowest_segments.Given as goal

abbrev pub invariant-loop-segment : goal.invariant-loop-segment
invariant-loop-segment l = All (SegmentHas IsLowest) (take l.segment-index l.segments)
