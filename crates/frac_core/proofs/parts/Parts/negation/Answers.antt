use Rattle.std.proofs.Common.{rules, ◌≡◌, pos, neg_ℤ, ◌-ℤ◌, to_z, of_z, arith, SFits}
use Rattle.std.proofs.lemmas.Int.{ints}
use mir.Syntax.{w128}
use Rattle.frac_core.specs.Parts.{fraction}
use Rattle.frac_core.proofs.Values.{negated_is}
use Rattle.frac_core.proofs.parts.Parts.negation.Goals as goal

pub returns-clause-exact : goal.returns-clause-exact
returns-clause-exact c =
    let x = fraction c.args.self in
    let fits : SFits w128 x.num = search rules in
    let num : to_z w128 (of_z w128 (pos 0 -ℤ to_z w128 (of_z w128 x.num))) ≡ neg_ℤ x.num = omega (arith, ints, c.requires.within.num_fits) in
    rw num (negated_is c.args.limit x c.requires.within)
