use Rattle.std.proofs.Common.{pos, ◌≤ℤ◌, arith, subst}
use Rattle.std.proofs.lemmas.Int.{ints}
use Rattle.rational_laws.specs.Fraction.{rational}
use Rattle.rational_laws.proofs.OrderLaws.{sign_ℚ-not_below}
use Rattle.test_kit.proofs.problems.is_negative.Goals as goal

pub returns-else-sign-lt0 : goal.returns-else-sign-lt0
returns-else-sign-lt0 g c h =
    let above : pos 0 ≤ℤ c.sign.result = omega (arith, ints) in
    (sign_ℚ-not_below (rational (g.F.Exact.value c.args.value))).0 (subst (λ s. pos 0 ≤ℤ s) c.sign.ensures above)
