-- Its sign.
use Rattle.std.proofs.Common.{◌<ℤ◌, pos, arith, subst}
use Rattle.std.proofs.lemmas.Int.{ints}
use Rattle.rational_laws.specs.Fraction.{rational}
use Rattle.frac_core.specs.Values.{value as value128}
use Rattle.cert_sums.specs.Ranks.{IsPositive}
use Rattle.cert_sums.proofs.Orders.{above_zero}
use Rattle.cert_sums.proofs.projection.projects.Goals as goal

pub returns-in-Some-clause-some : goal.returns-in-Some-clause-some
returns-in-Some-clause-some c = λ h.
    let above : pos 0 <ℤ c.sign.result = omega (arith, ints, h) in
    subst IsPositive (c.in-Some.ensures {u = tt}).length (above_zero (rational (value128 c.in-Some.length)) c.sign.result c.sign.ensures above)
