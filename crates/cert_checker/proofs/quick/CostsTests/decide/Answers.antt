-- No cost is negative at either end.
use Rattle.rational_laws.specs.Fraction.{rational}
use Rattle.frac_core.specs.Values.{value as value128}
use Rattle.cert_checker.proofs.Wholes.{costs_true}
use Rattle.cert_checker.proofs.quick.CostsTests.decide.Goals as goal

pub returns-then-costs_stand-2 : goal.returns-then-costs_stand-2
returns-then-costs_stand-2 c =
    let x = c.args.self in
    costs_true x.quick.problem.now (rational (value128 x.lo)) (rational (value128 x.hi)) (c.costs_stand.ensures c.if-costs_stand.true) (c.costs_stand-then-costs_stand.ensures c.if-costs_stand-2.true)
