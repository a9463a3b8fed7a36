use Rattle.std.proofs.Common.{All, subst, take_all}
use Rattle.std.proofs.lemmas.List.Elements.{All-more}
use Rattle.rq_engine.specs.Lowest.{IsLowestInterval}
use Rattle.rq_engine.proofs.lowest.all_lowest_intervals.Goals as goal

pub loop-interval-preserved : goal.loop-interval-preserved
loop-interval-preserved c =
    All-more IsLowestInterval c.args.intervals.now _ c.interval-item.result c.loop-interval-test.true c.loop-interval.invariant (subst IsLowestInterval c.interval-item.is c.lowest_interval.ensures)

pub returns : goal.returns
returns c = subst (λ l. All IsLowestInterval l) (take_all _ _ c.loop-interval-test.false) c.loop-interval.invariant
