use Rattle.cert_checker.proofs.Held.{projection_true}
use Rattle.cert_checker.proofs.projection.IntervalView.projects.Goals as goal

pub returns-in-Some : goal.returns-in-Some
returns-in-Some c = λ h m. projection_true c.args.self.problem.now c.args.self.interval.now (c.projects.ensures.projection h) (c.projects.ensures.some h) m
