use Rattle.std.proofs.Common.{◌≡◌, ◌&&◌, All, drop, take}
use Rattle.ratio.specs.Lowest.{IsLowest}
use Rattle.cert_text.specs.Numbers.{segments_are_narrow, SegmentHas}
use Rattle.cert_text.proofs.narrow.segments_are_narrow.Given as goal

abbrev pub invariant-loop-segment : goal.invariant-loop-segment
invariant-loop-segment l = (segments_are_narrow l.segments ≡ (l.all && segments_are_narrow (drop l.segment-index l.segments))) × All (SegmentHas IsLowest) (take l.segment-index l.segments)
