use Rattle.std.proofs.Common.{rules, ◌≡◌, to_z, of_z, sym, ◌∙◌, arith, w8, SFits, to_z-of_z}
use Rattle.std.specs.Int.{int_signum}
use Rattle.std.proofs.lemmas.Int.{ints}
use mir.Syntax.{w128}
use Rattle.rational_laws.proofs.OrderLaws.{sign_ℚ-quotient}
use Rattle.frac_core.proofs.parts.Parts.sign.Goals as goal

pub returns : goal.returns
returns c =
    let s = c.signum.result in
    let fits : SFits w128 c.args.self.num = search rules in
    let value : s ≡ int_signum c.args.self.num = simp to_z-of_z at c.signum.ensures.value in
    let same : to_z w8 (of_z w8 (to_z w128 (of_z w128 s))) ≡ s = omega (arith, ints, c.signum.ensures.lower_bound, c.signum.ensures.upper_bound) in
    same ∙ value ∙ sym (sign_ℚ-quotient c.args.self.num c.args.self.den c.requires)
