use Rattle.std.proofs.Common.{All, take}
use Rattle.rq_engine.specs.Lowest.{IsLowestPair}
use Rattle.rq_engine.proofs.lowest.lowest_pairs.Given as goal

abbrev pub invariant-loop-pair : goal.invariant-loop-pair
invariant-loop-pair l = All IsLowestPair (take l.pair-index l.pairs)
