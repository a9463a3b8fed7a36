use Rattle.std.proofs.Common.{rules, ◌≡◌, ◌*◌, ◌/◌, ◌≤◌, pos, neg_ℤ, unsigned_abs, int_lt, if◌then◌else◌, SFits, to_z-of_z, sym, ap, ◌∙◌, subst}
use Rattle.std.proofs.Math.Nat.{div-mul_cancel}
use mir.Syntax.{w128}
use Rattle.frac_core.specs.Gcd.{gcd}
use Rattle.frac_core.specs.GcdLaws.{gcd_dvd_l}
use Rattle.std.specs.Int.{◌∣◌}
use Rattle.frac_core.proofs.Signs.{signed_times}
use Rattle.frac_core.proofs.Products.{reduced_is}
use Rattle.frac_core.proofs.parts.Parts.lowest.Goals as goal

pub returns-then-den-limit-clause-exact : goal.returns-then-den-limit-clause-exact
returns-then-den-limit-clause-exact c =
    let a = c.args.n in
    let g = c.common_divisor-g.result in
    let q = c.quotient-num.result in
    let fa : SFits w128 a = c.ranges.n in
    let fr : SFits w128 c.signed.result = search rules in
    let size : c.unsigned_abs-size.result ≡ unsigned_abs a = simp to_z-of_z at c.unsigned_abs-size.ensures.value in
    let made : c.signed.result ≡ (if int_lt a (pos 0) then neg_ℤ (pos q) else pos q) = simp to_z-of_z at c.signed.ensures in
    let divisor : g ≡ gcd (unsigned_abs a) c.args.d = c.common_divisor-g.ensures.value ∙ ap (λ m. gcd m c.args.d) size in
    let part : q ≡ unsigned_abs a / g = c.quotient-num.ensures ∙ ap (λ m. m / g) size in
    let divides : g ∣ unsigned_abs a = subst (λ m. m ∣ unsigned_abs a) (sym divisor) (gcd_dvd_l (unsigned_abs a) c.args.d) in
    let back : q * g ≡ unsigned_abs a = ap (λ m. m * g) part ∙ div-mul_cancel g divides in
    rw (to_z-of_z fr)
    (reduced_is c.args.limit a c.signed.result c.args.d g c.quotient-den.result c.requires.positive divisor
    (signed_times a c.signed.result g q made back) c.quotient-den.ensures (subst (λ m. m ≤ c.args.limit) part c.if-num-limit.true) c.if-den-limit.true)
