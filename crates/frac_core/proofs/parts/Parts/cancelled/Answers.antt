use Rattle.std.proofs.Common.{rules, ◌*◌, SFits, to_z-of_z, sym, ap, ◌∙◌, subst}
use Rattle.std.proofs.Math.Nat.{div-mul_cancel}
use Rattle.std.specs.Int.{◌∣◌}
use mir.Syntax.{w128}
use Rattle.frac_core.specs.Gcd.{gcd}
use Rattle.frac_core.specs.GcdLaws.{gcd_dvd_l, gcd_dvd_r}
use Rattle.frac_core.specs.Parts.{fraction}
use Rattle.frac_core.proofs.Products.{cancelled}
use Rattle.frac_core.proofs.parts.Parts.cancelled.Goals as goal

pub signed_quotient-requires-clause-divides : goal.signed_quotient-requires-clause-divides
signed_quotient-requires-clause-divides c = rw (← c.unsigned_abs.ensures.value, c.common_divisor-g.ensures.value) (gcd_dvd_l _ _)

pub signed_quotient-requires-2-clause-divides : goal.signed_quotient-requires-2-clause-divides
signed_quotient-requires-2-clause-divides c = rw (← c.unsigned_abs-2.ensures.value, c.common_divisor-h.ensures.value) (gcd_dvd_l _ _)

pub returns : goal.returns
returns c =
    let x = fraction c.args.self in
    let y = fraction c.args.other in
    let g = c.common_divisor-g.result in
    let h = c.common_divisor-h.result in
    let fx : SFits w128 x.num = search rules in
    let fy : SFits w128 y.num = search rules in
    let fl : SFits w128 c.signed_quotient.result = search rules in
    let fr : SFits w128 c.signed_quotient-2.result = search rules in
    let size = simp to_z-of_z at c.unsigned_abs.ensures.value in
    let other_size = simp to_z-of_z at c.unsigned_abs-2.ensures.value in
    let left = simp to_z-of_z at c.signed_quotient.ensures.product in
    let right = simp to_z-of_z at c.signed_quotient-2.ensures.product in
    let below = subst (λ m. m ∣ x.den) (sym c.common_divisor-h.ensures.value) (gcd_dvd_r _ x.den) in
    let other_below = subst (λ m. m ∣ y.den) (sym c.common_divisor-g.ensures.value) (gcd_dvd_r _ y.den) in
    rw (to_z-of_z fl, to_z-of_z fr)
    (cancelled c.args.limit x y c.signed_quotient.result c.signed_quotient-2.result c.quotient.result c.quotient-2.result g h c.requires.left c.requires.right
    (c.common_divisor-g.ensures.value ∙ ap (λ m. gcd m y.den) size) (c.common_divisor-h.ensures.value ∙ ap (λ m. gcd m x.den) other_size)
    left right
    (ap (λ m. m * h) c.quotient.ensures ∙ div-mul_cancel h below) (ap (λ m. m * g) c.quotient-2.ensures ∙ div-mul_cancel g other_below))
