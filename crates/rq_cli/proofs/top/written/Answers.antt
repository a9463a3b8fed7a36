use Rattle.rq_cli.proofs.Runs.{memory_cause}
use Rattle.rq_cli.proofs.top.written.Goals as goal

pub returns-in-Err-report_bytes-clause-cause : goal.returns-in-Err-report_bytes-clause-cause
returns-in-Err-report_bytes-clause-cause g c = memory_cause c.args.job.now c.args.bytes.now
