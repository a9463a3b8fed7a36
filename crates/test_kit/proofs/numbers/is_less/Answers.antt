use Rattle.std.specs.Ordering.{is_lt}
use Rattle.std.proofs.Common.{◌≡◌, true, sym, ap, ◌∙◌}
use Rattle.rational_laws.specs.Fraction.{rational}
use Rattle.rational_laws.specs.Rational.{ℚ}
use Rattle.rational_laws.specs.Order.{cmp_ℚ}
use Rattle.rational_laws.proofs.OrderLaws.{by_cmp}
use Rattle.loss_model.specs.Strict.{◌<ℚ◌}
use Rattle.test_kit.proofs.numbers.is_less.Goals as goal

less_by : (x y : ℚ) → is_lt (cmp_ℚ x y) ≡ true → x <ℚ y
less_by x y = by_cmp x y (λ o. is_lt o ≡ true → x <ℚ y) (λ h e. h) (λ h e. absurd (cc e)) (λ h e. absurd (cc e))

pub returns : goal.returns
returns g c = λ t.
    less_by (rational (g.F.Exact.value c.args.x)) (rational (g.F.Exact.value c.args.y)) (sym (c.is_lt.ensures ∙ ap is_lt c.compare.ensures) ∙ t)
