use Rattle.cert_checker.proofs.Wholes.{balanced_segment}
use Rattle.cert_checker.proofs.quick.Quick.duals_balance.Goals as goal

pub returns-in-Some : goal.returns-in-Some
returns-in-Some c = λ h j. balanced_segment c.args.self.problem.now c.args.segment.now (c.duals_balance.ensures.low h) (c.duals_balance.ensures.high h) j
