use Rattle.std.proofs.Common.{◌≡◌, ◌++◌, All, Some, length, map}
use Rattle.std.specs.Vec.Iter.{into_iter_items, into_iter_len}
use Rattle.rank_walk_model.specs.Intervals.{statement}
use Rattle.rq_engine.specs.Intervals.{HasFactors}
use Rattle.rq_engine.proofs.certify.proofs.Given as goal

-- what is stated of the intervals so far and of those that are left is stated of all
abbrev pub invariant-loop-interval : goal.invariant-loop-interval
invariant-loop-interval l = record {
  all_stated : map Some l.proofs ++ map statement (into_iter_items l.interval-iterator) ≡ map statement l.fn.intervals;
  listed : All HasFactors (into_iter_items l.interval-iterator);
  counted : into_iter_len l.interval-iterator ≡ length (into_iter_items l.interval-iterator);
}
