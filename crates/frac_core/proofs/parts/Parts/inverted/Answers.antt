use Rattle.std.proofs.Common.{rules, ◌≡◌, ◌≢◌, pos, SFits, to_z-of_z}
use mir.Syntax.{w128}
use Rattle.rational_laws.proofs.Quotients.{quotient-zero}
use Rattle.frac_core.specs.Parts.{fraction}
use Rattle.frac_core.specs.Overflow.{inverse_of}
use Rattle.frac_core.proofs.Values.{inverse_is}
use Rattle.frac_core.proofs.parts.Parts.inverted.Goals as goal

pub returns-clause-exact : goal.returns-clause-exact
returns-clause-exact c =
    let x = fraction c.args.self in
    let fx : SFits w128 x.num = search rules in
    let fr : SFits w128 c.signed.result = search rules in
    let num : c.signed.result ≡ (inverse_of x).num = simp to_z-of_z at c.signed.ensures in
    let den : c.unsigned_abs.result ≡ (inverse_of x).den = simp to_z-of_z at c.unsigned_abs.ensures.value in
    let some : x.num ≢ pos 0 = λ e. c.requires.nonzero ((quotient-zero x.num x.den c.requires.within.positive).1 e) in
    rw (to_z-of_z fr, num, den) (inverse_is c.args.limit x c.requires.within some)
