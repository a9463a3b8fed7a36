use Rattle.std.proofs.Common.{rules, ◌≡◌, ◌==◌, ◌↔◌, ℤ, pos, negsuc, zero, suc, refl, of_z, IsTrue, SFits, arith}
use Rattle.std.proofs.lemmas.Int.{ints}
use mir.Syntax.{w128}
use Rattle.rational_laws.proofs.Quotients.{quotient-zero}
use Rattle.frac_core.specs.Parts.{fraction}
use Rattle.frac_core.proofs.parts.Parts.is_zero.Goals as goal

zero_test : (z : ℤ) → SFits w128 z → IsTrue (of_z w128 z == 0) ↔ (z ≡ pos 0)
zero_test (pos zero) f = (λ h. refl, λ e. refl)
zero_test (pos (suc n)) f = (λ h. absurd (grind (arith, h)), λ e. absurd (omega (arith, ints)))
zero_test (negsuc n) f = (λ h. absurd (grind (arith, h, f.sfits)), λ e. absurd (omega (arith, ints)))

pub returns : goal.returns
returns c =
    let x = fraction c.args.self in
    let fits : SFits w128 x.num = search rules in
    let value = quotient-zero x.num x.den c.requires in
    let test = zero_test x.num fits in
    (λ h. value.1 (test.0 h), λ h. test.1 (value.0 h))
