use Rattle.std.proofs.Common.{◌≡◌, ◌&&◌, drop}
use Rattle.rq_engine.specs.Digits.{intervals_are_readable}
use Rattle.rq_engine.proofs.digits.intervals_are_readable.Given as goal

abbrev pub invariant-loop-interval : goal.invariant-loop-interval
invariant-loop-interval l = intervals_are_readable l.intervals ≡ (l.all && intervals_are_readable (drop l.interval-index l.intervals))
