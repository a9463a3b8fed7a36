use Rattle.rank_inversion.proofs.RankIntervals.{inner_costs}
use Rattle.rank_inversion.proofs.asks.RankProblem.started.Goals as goal

pub start_in_wholes-requires-clause-costs : goal.start_in_wholes-requires-clause-costs
start_in_wholes-requires-clause-costs g c κs within =
    inner_costs g.F.Exact.value c.args.self.now.problem.now c.args.self.now.crit c.args.tau c.requires.ready.rankable c.requires.inner
