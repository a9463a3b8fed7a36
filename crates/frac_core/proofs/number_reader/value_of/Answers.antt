use Rattle.std.proofs.Common.{◌∙◌, arith, rules}
use mir.Syntax.{w128}
use mir.Val.{SFits}
use Rattle.std.proofs.lemmas.Int.{to_z-of_z, to_z_pos}
use Rattle.rational_laws.specs.Fraction.{rational}
use Rattle.frac_core.proofs.ReaderSteps.{some_value, value_is}
use Rattle.frac_core.proofs.number_reader.value_of.Goals as goal

pub unwrap-requires : goal.unwrap-requires
unwrap-requires g c =
    let fits : SFits w128 c.signed-numerator.result = search rules in
    some_value c.from_parts.result g.F.Exact.range c.args.parts.numerator c.args.parts.denominator c.args.is_negative _ _
    (to_z-of_z w128 c.signed-numerator.result fits ∙ c.signed-numerator.ensures)
    (to_z_pos w128 c.args.parts.denominator (omega (arith, c.requires.fits, c.requires.within.denominator)))
    c.requires.within.numerator c.requires.within.denominator c.requires.within.positive c.from_parts.ensures.refused.0

pub returns : goal.returns
returns g c =
    let fits : SFits w128 c.signed-numerator.result = search rules in
    value_is (rational (g.F.Exact.value c.unwrap.result)) c.args.parts.numerator c.args.parts.denominator c.args.is_negative _ _
    (to_z-of_z w128 c.signed-numerator.result fits ∙ c.signed-numerator.ensures)
    (to_z_pos w128 c.args.parts.denominator (omega (arith, c.requires.fits, c.requires.within.denominator)))
    (rw c.unwrap.ensures at c.from_parts.ensures.exact)
