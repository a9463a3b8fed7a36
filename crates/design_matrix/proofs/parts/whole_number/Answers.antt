use Rattle.std.proofs.Common.{w64, rules, ap, pos, ◌∙◌}
use Rattle.std.proofs.lemmas.Int.{to_z-of_z}
use Rattle.std.specs.Int.{w128}
use mir.Val.{SFits}
use Rattle.rational_laws.specs.Rational.{◌*ℚ◌, inverse, whole}
use Rattle.rational_laws.proofs.Quotients.{quotient-one}
use Rattle.design_matrix.proofs.parts.whole_number.Goals as goal

pub returns : goal.returns
returns c =
    let narrow : SFits w64 c.args.number = search rules in
    let wide : SFits w128 c.from.result = search rules in
    c.in-Some.ensures.exact
    ∙ ap (λ n. whole n *ℚ inverse (whole (pos 1))) (to_z-of_z w128 c.from.result wide ∙ c.from.ensures ∙ to_z-of_z w64 c.args.number narrow)
    ∙ quotient-one c.args.number
