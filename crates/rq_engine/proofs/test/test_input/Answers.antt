use Rattle.rq_engine.proofs.Testing.{scored_cause}
use Rattle.rq_engine.proofs.test.test_input.Goals as goal

pub returns-in-Err-scored-clause-cause : goal.returns-in-Err-scored-clause-cause
returns-in-Err-scored-clause-cause c = scored_cause c.args.job.now c.args.input c.in-Ok.ensures.full_rank c.in-Err-scored.halt c.in-Err-scored.ensures.cause
