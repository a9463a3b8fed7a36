use Rattle.rational_laws.specs.Fraction.{rational}
use Rattle.cert_checker.proofs.Wholes.{bounds_true}
use Rattle.cert_checker.proofs.quick.Quick.bounds_hold.Goals as goal

pub returns-in-Some : goal.returns-in-Some
returns-in-Some c = λ h condition j.
    bounds_true c.args.self.problem.now (record { theta = rational c.args.theta.now; vertex = c.args.vertex.now; basic = c.args.basic.now }) condition j (c.bounds_hold.ensures h)
