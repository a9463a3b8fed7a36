use Rattle.std.proofs.Common.{◌≡◌, SFits, to_z-of_z, rules, ap, ◌∙◌, ◌*◌, ◌/◌, pos, neg_ℤ, int_lt, unsigned_abs, if◌then◌else◌}
use Rattle.std.proofs.Math.Nat.{div-mul_cancel}
use mir.Syntax.{w128}
use Rattle.frac_core.proofs.Signs.{signed_times}
use Rattle.frac_core.proofs.bounded.signed_quotient.Goals as goal

pub returns-clause-product : goal.returns-clause-product
returns-clause-product c =
    let a = c.args.a in
    let k = c.args.k in
    let f : SFits w128 a = c.ranges.a in
    let g : SFits w128 c.signed.result = search rules in
    let size : c.unsigned_abs.result ≡ unsigned_abs a = simp to_z-of_z at c.unsigned_abs.ensures.value in
    let made : c.signed.result ≡ (if int_lt a (pos 0) then neg_ℤ (pos c.quotient.result) else pos c.quotient.result) = simp to_z-of_z at c.signed.ensures in
    let back : c.quotient.result * k ≡ unsigned_abs a = ap (λ x. x * k) c.quotient.ensures ∙ ap (λ x. x / k * k) size ∙ div-mul_cancel k c.requires.divides in
    rw (to_z-of_z g) (signed_times a c.signed.result k c.quotient.result made back)
