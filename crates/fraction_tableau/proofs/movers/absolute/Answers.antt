use Rattle.std.proofs.Common.{pos, ◌≤ℤ◌, arith, sym}
use Rattle.std.proofs.lemmas.Int.{ints}
use Rattle.rational_laws.specs.Fraction.{rational}
use Rattle.pivot_model.proofs.Entering.{abs_above}
use Rattle.fraction_tableau.proofs.SlopeLaws.{from_sign}
use Rattle.fraction_tableau.proofs.movers.absolute.Goals as goal

pub returns-else-sign-lt0 : goal.returns-else-sign-lt0
returns-else-sign-lt0 g c =
    let above : pos 0 ≤ℤ c.sign.result = omega (arith, ints) in
    sym (abs_above (rational (g.F.Exact.value c.args.value)) (from_sign (rational (g.F.Exact.value c.args.value)) c.sign.result c.sign.ensures above))
