use Rattle.rank_inversion.proofs.Joined.{asked_costs}
use Rattle.rank_inversion.proofs.wholes.Started.sides.Goals as goal

pub both_sides-requires-clause-costs : goal.both_sides-requires-clause-costs
both_sides-requires-clause-costs g c κs within = asked_costs g.F.Exact.value c.args.self.now.reached.tableau.problem c.args.asked c.requires.asked
