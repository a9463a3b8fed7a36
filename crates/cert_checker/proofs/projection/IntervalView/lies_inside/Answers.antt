use Rattle.cert_checker.proofs.Held.{inside_true}
use Rattle.cert_checker.proofs.projection.IntervalView.lies_inside.Goals as goal

pub returns-in-Some : goal.returns-in-Some
returns-in-Some c = λ h m n.
    let end = c.args.end.now in
    inside_true c.args.self.problem.now c.args.self.interval.now end.vertex end.inside (c.lies_inside.ensures.sides h) (c.lies_inside.ensures.bound h) m n
