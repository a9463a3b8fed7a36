use Rattle.std.proofs.Common.{◌≡◌, ◌&&◌, drop}
use Rattle.rq_engine.specs.Digits.{segments_are_readable}
use Rattle.rq_engine.proofs.digits.segments_are_readable.Given as goal

abbrev pub invariant-loop-segment : goal.invariant-loop-segment
invariant-loop-segment l = segments_are_readable l.segments ≡ (l.all && segments_are_readable (drop l.segment-index l.segments))
