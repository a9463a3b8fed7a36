use Rattle.rank_inversion.proofs.Joined.{asked_costs}
use Rattle.rank_inversion.proofs.inversion.interval_in_wholes.Goals as goal

pub start_in_wholes-started-requires-clause-costs : goal.start_in_wholes-started-requires-clause-costs
start_in_wholes-started-requires-clause-costs g c κs within =
    asked_costs g.F.Exact.value c.args.problem.now c.args.asked
    (record { shaped = c.requires.shaped; column = c.requires.column; tau_above = c.requires.tau_above; tau_below = c.requires.tau_below; crit = c.requires.crit; data_rows = c.requires.data })

pub interval_by-interval-requires-clause-asked : goal.interval_by-interval-requires-clause-asked
interval_by-interval-requires-clause-asked g c κs within =
    record { shaped = c.requires.shaped; column = c.requires.column; tau_above = c.requires.tau_above; tau_below = c.requires.tau_below; crit = c.requires.crit; data_rows = c.requires.data }
