use Rattle.std.proofs.Common.{subst}
use Rattle.rational_laws.specs.Fraction.{rational}
use Rattle.frac_core.specs.Values.{value as value128}
use Rattle.cert_checker.specs.Intervals.{sign_of}
use Rattle.cert_checker.specs.Tests.{Holds}
use Rattle.cert_checker.proofs.Held.{outside_true}
use Rattle.cert_checker.proofs.projection.IntervalView.lies_outside.Goals as goal

pub returns-in-Some : goal.returns-in-Some
returns-in-Some c = λ h m.
    let found = c.in-Some.statistic in
    let held : Holds (sign_of c.args.way) (rational (value128 found)) (rational (value128 c.zero.result)) = subst (λ r. Holds r (rational (value128 found)) (rational (value128 c.zero.result))) c.sign.ensures (c.holds.ensures.0 h) in
    outside_true c.args.self.problem.now c.args.self.interval.now c.args.vertex.now c.args.outside.now c.args.way found (c.in-Some.ensures {u = tt})
    (subst (λ z. Holds (sign_of c.args.way) (rational (value128 found)) z) c.zero.ensures held) m
