use Rattle.rq_engine.proofs.Fits.{stopped_cause}
use Rattle.rq_engine.proofs.fit.job_intervals.Goals as goal

pub returns-in-Err-clause-cause : goal.returns-in-Err-clause-cause
returns-in-Err-clause-cause g c =
    rw c.interval_halt.ensures
    (stopped_cause c.args.job.now c.args.problem.now c.in-Some.rank c.in-Some.is c.in-Err.stopped (rw c.as_slice.ensures at (c.in-Err.ensures {u = tt}).stopped))
