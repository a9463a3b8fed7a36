use Rattle.std.proofs.Common.{All, subst, take_all}
use Rattle.std.proofs.lemmas.List.Elements.{All-more}
use Rattle.rq_engine.specs.Lowest.{IsLowestPair}
use Rattle.rq_engine.proofs.lowest.lowest_pairs.Goals as goal

pub loop-pair-preserved : goal.loop-pair-preserved
loop-pair-preserved c =
    All-more IsLowestPair c.args.pairs.now _ c.pair-item.result c.loop-pair-test.true c.loop-pair.invariant (subst IsLowestPair c.pair-item.is c.lowest_pair.ensures)

pub returns : goal.returns
returns c = subst (λ l. All IsLowestPair l) (take_all _ _ c.loop-pair-test.false) c.loop-pair.invariant
