use Rattle.std.proofs.Common.{All, take}
use Rattle.rq_engine.specs.Lowest.{IsLowestPair}
use Rattle.rq_engine.proofs.lowest.all_lowest_scores.Given as goal

abbrev pub invariant-loop-pairs : goal.invariant-loop-pairs
invariant-loop-pairs l = All (All IsLowestPair) (take l.pairs-index l.scores)
