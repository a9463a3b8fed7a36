-- All tests of the segments, condition by condition.
use Rattle.cert_checker.proofs.Shared.{all_apart, all_given}
use Rattle.cert_checker.proofs.certificate.decide_sums.Goals as goal

pub decide-requires-clause-given : goal.decide-requires-clause-given
decide-requires-clause-given g c κs κt = all_given c.args.quick.problem.now c.args.jobs.now.list.now c.args.quick c.requires.small c.requires.table

pub returns-in-Ok : goal.returns-in-Ok
returns-in-Ok g c = all_apart c.args.quick.problem.now c.args.jobs.now.list.now c.in-Ok.ensures
