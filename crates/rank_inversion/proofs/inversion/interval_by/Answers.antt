use Rattle.rank_inversion.proofs.WholeIntervals.{started_there, askable_there, interval_here}
use Rattle.rank_inversion.proofs.inversion.interval_by.Goals as goal

pub interval-requires-clause-started : goal.interval-requires-clause-started
interval-requires-clause-started g c κs within =
    started_there g.F.Exact.value c.args.problem.now c.in-Some.started c.args.asked c.args.limit (rw c.in-Some.is at c.requires.started)

pub interval-requires-clause-asked : goal.interval-requires-clause-asked
interval-requires-clause-asked g c κs within =
    askable_there g.F.Exact.value c.args.problem.now c.in-Some.started c.args.asked c.args.limit (rw c.in-Some.is at c.requires.started) c.requires.asked

pub returns-in_ok-interval-in-Some : goal.returns-in_ok-interval-in-Some
returns-in_ok-interval-in-Some g c =
    interval_here g.F.Exact.value c.args.problem.now c.in-Some.started c.args.asked c.args.limit (rw c.in-Some.is at c.requires.started) c.in_ok-interval-in-Some.interval (c.in_ok-interval-in-Some.ensures {u = tt})
