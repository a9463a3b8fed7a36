-- How two fractions compare, as it was tested.
use Rattle.std.specs.Prelude.{◌≡◌, ◌↔◌, IsTrue, Bool, true, false}
use Rattle.std.specs.Ordering.{is_lt, is_gt}
use Rattle.std.proofs.Common.{refl, sym, subst, ◌∙◌}
use Rattle.rational_laws.specs.Rational.{ℚ, ◌≤ℚ◌}
use Rattle.rational_laws.proofs.RationalLaws.{≤ℚ_refl}
use Rattle.rational_laws.specs.Order.{cmp_ℚ}
use Rattle.rational_laws.proofs.OrderLaws.{by_cmp, le_from_not}
use Rattle.rational_laws.proofs.Signs.{not_below}
use Rattle.pivot_model.specs.Duals.{◌<ℚ◌}

pub above_test : (x y : ℚ) → IsTrue (is_gt (cmp_ℚ x y)) ↔ (y <ℚ x)
above_test x y =
    by_cmp x y (λ o. IsTrue (is_gt o) ↔ (y <ℚ x))
    (λ h. (λ e. absurd (cc e), λ k. absurd (k (le_from_not x y h))))
    (λ h. (λ e. absurd (cc e), λ k. absurd (k (subst (λ z. x ≤ℚ z) h (≤ℚ_refl x)))))
    (λ h. (λ e. h, λ k. refl))

pub below_test : (x y : ℚ) → IsTrue (is_lt (cmp_ℚ x y)) ↔ (x <ℚ y)
below_test x y =
    by_cmp x y (λ o. IsTrue (is_lt o) ↔ (x <ℚ y))
    (λ h. (λ e. h, λ k. refl))
    (λ h. (λ e. absurd (cc e), λ k. absurd (k (subst (λ z. z ≤ℚ x) h (≤ℚ_refl x)))))
    (λ h. (λ e. absurd (cc e), λ k. absurd (k (le_from_not y x h))))

-- the same of a test that was made
pub not_below_by : (x y : ℚ) (b : Bool) → b ≡ is_lt (cmp_ℚ x y) → b ≡ false → y ≤ℚ x
not_below_by x y b e h = not_below x y (sym e ∙ h)

pub is_below_by : (x y : ℚ) (b : Bool) → b ≡ is_lt (cmp_ℚ x y) → b ≡ true → x <ℚ y
is_below_by x y b e h = (below_test x y).0 (sym e ∙ h)
