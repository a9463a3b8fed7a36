use Rattle.std.proofs.Common.{All, take}
use Rattle.rq_engine.specs.Lowest.{IsLowestInterval}
use Rattle.rq_engine.proofs.lowest.all_lowest_intervals.Given as goal

abbrev pub invariant-loop-interval : goal.invariant-loop-interval
invariant-loop-interval l = All IsLowestInterval (take l.interval-index l.intervals)
