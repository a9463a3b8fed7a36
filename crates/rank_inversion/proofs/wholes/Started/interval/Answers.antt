use Rattle.rank_inversion.proofs.WholeIntervals.{whole_interval}
use Rattle.rank_inversion.proofs.wholes.Started.interval.Goals as goal

pub returns-in-Ok : goal.returns-in-Ok
returns-in-Ok g c =
    rw (c.in-Ok.ensures {u = tt})
    (whole_interval g.F.Exact.value c.args.self.now c.args.asked c.args.limit c.requires.started c.requires.asked c.in_ok-sides.sides (c.in_ok-sides.ensures {u = tt}))
