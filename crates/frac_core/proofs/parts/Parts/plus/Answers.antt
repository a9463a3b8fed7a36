use Rattle.std.proofs.Common.{rules, ◌≤◌, ◌*◌, ◌*ℤ◌, pos, unsigned_abs, refl, SFits, to_z-of_z, ap, ap₂, ◌∙◌, sym, subst, le_trans, le_of_eq, div-le_self}
use Rattle.std.proofs.lemmas.Int.{unsigned_abs-mul}
use mir.Syntax.{w128}
use Rattle.frac_core.specs.Gcd.{gcd}
use Rattle.frac_core.specs.GcdLaws.{gcd_dvd_l}
use Rattle.frac_core.specs.Parts.{fraction}
use Rattle.frac_core.proofs.Sums.{SumSteps, steps_fit, steps_exact}
use Rattle.frac_core.proofs.parts.Parts.plus.Goals as goal

pub signed_quotient-requires-clause-divides : goal.signed_quotient-requires-clause-divides
signed_quotient-requires-clause-divides c = rw (← c.unsigned_abs.ensures.value, c.common_divisor-h.ensures.value) (gcd_dvd_l _ _)

pub returns : goal.returns
returns c =
    let x = fraction c.args.self in
    let y = fraction c.args.other in
    let fx : SFits w128 c.args.self.num = search rules in
    let fy : SFits w128 c.args.other.num = search rules in
    let fl : SFits w128 c.in_ok-left.left = search rules in
    let fr : SFits w128 c.in_ok-right.right = search rules in
    let fs : SFits w128 c.in_ok-joined.joined = search rules in
    let fq : SFits w128 c.signed_quotient.result = search rules in
    let left = simp to_z-of_z at (c.in_ok-left.ensures {u = tt}) in
    let right = simp to_z-of_z at (c.in_ok-right.ensures {u = tt}) in
    let joined = simp to_z-of_z at (c.in_ok-joined.ensures {u = tt}) in
    let den = c.in_ok-den.ensures {u = tt} in
    let size = simp to_z-of_z at c.unsigned_abs.ensures.value in
    let product = simp to_z-of_z at c.signed_quotient.ensures.product in
    let part = simp to_z-of_z at c.signed_quotient.ensures.size in
    let steps : SumSteps c.args.limit x y c.common_divisor-g.result c.common_divisor-h.result c.in_ok-den.den c.in_ok-left.left c.in_ok-right.right c.in_ok-joined.joined = record {
      divisor = c.common_divisor-g.ensures.value;
      left_is = left.1 ∙ ap (λ m. x.num *ℤ pos m) c.quotient.ensures;
      right_is = right.1 ∙ ap (λ m. y.num *ℤ pos m) c.quotient-scale.ensures;
      sum_is = joined.1;
      last_divisor = c.common_divisor-h.ensures.value ∙ ap (λ m. gcd m c.common_divisor-g.result) size;
      den_is = den.1 ∙ ap₂ ◌*◌ c.quotient-scale.ensures c.quotient-2.ensures;
      left_fits = subst (λ m. m ≤ c.args.limit) (sym (ap unsigned_abs left.1 ∙ unsigned_abs-mul x.num _)) left.0;
      right_fits = subst (λ m. m ≤ c.args.limit) (sym (ap unsigned_abs right.1 ∙ unsigned_abs-mul y.num _)) right.0;
      sum_fits = subst (λ m. unsigned_abs m ≤ c.args.limit) (sym joined.1) joined.0;
      den_fits = subst (λ m. m ≤ c.args.limit) (sym den.1) den.0;
    } in
    let small : unsigned_abs c.signed_quotient.result ≤ c.args.limit = le_trans (le_of_eq part) (le_trans (div-le_self _ _) steps.sum_fits) in
    record {
      exact = rw (to_z-of_z fq) (steps_exact c.args.limit x y _ _ _ _ _ _ steps c.requires.left c.requires.right c.signed_quotient.result product small);
      fits = (λ _. steps_fit c.args.limit x y _ _ _ _ _ _ steps, λ _. refl);
    }
