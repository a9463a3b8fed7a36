use Rattle.std.proofs.Common.{All, subst, take_all}
use Rattle.std.proofs.lemmas.List.Elements.{All-more}
use Rattle.rq_engine.specs.Lowest.{IsLowestPair}
use Rattle.rq_engine.proofs.lowest.all_lowest_scores.Goals as goal

pub loop-pairs-preserved : goal.loop-pairs-preserved
loop-pairs-preserved c =
    All-more (All IsLowestPair) c.args.scores.now _ c.pairs-item.result c.loop-pairs-test.true c.loop-pairs.invariant (subst (All IsLowestPair) c.pairs-item.is (rw c.as_slice.ensures at c.lowest_pairs.ensures))

pub returns : goal.returns
returns c = subst (λ l. All (All IsLowestPair) l) (take_all _ _ c.loop-pairs-test.false) c.loop-pairs.invariant
