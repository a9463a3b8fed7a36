use Rattle.std.proofs.Common.{◌≡◌, ◌&&◌, All, drop, take}
use Rattle.ratio.specs.Lowest.{IsLowest}
use Rattle.cert_text.specs.Numbers.{intervals_are_narrow, IntervalHas}
use Rattle.cert_text.proofs.narrow.intervals_are_narrow.Given as goal

abbrev pub invariant-loop-interval : goal.invariant-loop-interval
invariant-loop-interval l = (intervals_are_narrow l.intervals ≡ (l.all && intervals_are_narrow (drop l.interval-index l.intervals))) × All (IntervalHas IsLowest) (take l.interval-index l.intervals)
