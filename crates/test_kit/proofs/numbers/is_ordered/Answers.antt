use Rattle.std.specs.Ordering.{is_lt}
use Rattle.std.proofs.Common.{◌≡◌, false, sym, ap, subst, ◌∙◌}
use Rattle.rational_laws.specs.Fraction.{rational}
use Rattle.rational_laws.specs.Rational.{ℚ, ◌≤ℚ◌}
use Rattle.rational_laws.proofs.RationalLaws.{≤ℚ_refl}
use Rattle.rational_laws.specs.Order.{cmp_ℚ}
use Rattle.rational_laws.proofs.OrderLaws.{by_cmp, le_from_not}
use Rattle.test_kit.proofs.numbers.is_ordered.Goals as goal

not_below : (x y : ℚ) → is_lt (cmp_ℚ x y) ≡ false → y ≤ℚ x
not_below x y =
    by_cmp x y (λ o. is_lt o ≡ false → y ≤ℚ x)
    (λ h e. absurd (cc e))
    (λ h e. subst (λ z. z ≤ℚ x) h (≤ℚ_refl x))
    (λ h e. le_from_not y x h)

pub returns-else-is_lt : goal.returns-else-is_lt
returns-else-is_lt g c h =
    not_below (rational (g.F.Exact.value c.args.y)) (rational (g.F.Exact.value c.args.x)) (sym (c.is_lt.ensures ∙ ap is_lt c.compare.ensures) ∙ c.if-is_lt.false)
