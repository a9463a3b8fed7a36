-- Fractions in units of 1/u, where these are whole numbers: their order, and when they are equal.
use Rattle.std.specs.Prelude.{◌≡◌, ◌↔◌, ℕ, ◌≤◌, [], ◌∷◌, ℤ, pos, ◌≤ℤ◌}
use Rattle.std.proofs.Common.{arith, refl, sym, ap, subst, ◌∙◌}
use Rattle.std.proofs.lemmas.Int.{ints}
use Rattle.rational_laws.specs.Solver.{number, ◌⊠◌, v0}
use Rattle.rational_laws.specs.Rational.{ℚ, ◌*ℚ◌, whole, ◌≤ℚ◌}
use Rattle.rational_laws.proofs.RationalLaws.{ring_ℚ, ≤ℚ_mul}
use Rattle.rational_laws.proofs.WholeNumbers.{whole-le, le_from_whole, same_from_whole}
use Rattle.rational_laws.proofs.Inverses.{*ℚ_cancel}
use Rattle.rational_laws.proofs.OrderLaws.{≤ℚ-from_mul, le_from_not}
use Rattle.rational_laws.proofs.Signs.{positive_nonzero}
use Rattle.loss_model.specs.Strict.{◌<ℚ◌}

pub positive_whole : (n : ℕ) → 1 ≤ n → whole (pos 0) <ℚ whole (pos n)
positive_whole n h k = absurd (omega (arith, ints, le_from_whole (pos n) (pos 0) k))

pub positive_product : (x y : ℚ) → whole (pos 0) <ℚ x → whole (pos 0) <ℚ y → whole (pos 0) <ℚ (x *ℚ y)
positive_product x y h k l = k (≤ℚ-from_mul y (whole (pos 0)) x h (subst (λ z. (x *ℚ y) ≤ℚ z) (ring_ℚ (x ∷ []) (number (pos 0)) (v0 ⊠ number (pos 0)) refl) l))

-- an order of fractions is that of the whole numbers which they are in units of 1/u
pub order_of : (u : ℚ) (a b : ℤ) (x y : ℚ) → whole (pos 0) <ℚ u → whole a ≡ u *ℚ x → whole b ≡ u *ℚ y → (x ≤ℚ y) ↔ (a ≤ℤ b)
order_of u a b x y h e f = (
  λ le. le_from_whole a b (subst (λ z. z ≤ℚ whole b) (sym e) (subst (λ z. (u *ℚ x) ≤ℚ z) (sym f) (≤ℚ_mul x y u (le_from_not (whole (pos 0)) u h) le))),
  λ le. ≤ℚ-from_mul x y u h (subst (λ z. z ≤ℚ (u *ℚ y)) e (subst (λ z. whole a ≤ℚ z) f (whole-le a b le))),
)

-- two fractions are equal where the whole numbers are
pub equation_of : (u : ℚ) (a b : ℤ) (x y : ℚ) → whole (pos 0) <ℚ u → whole a ≡ u *ℚ x → whole b ≡ u *ℚ y → (x ≡ y) ↔ (a ≡ b)
equation_of u a b x y h e f = (
  λ same. same_from_whole a b (e ∙ ap (λ z. u *ℚ z) same ∙ sym f),
  λ same. *ℚ_cancel x y u (positive_nonzero u h) (sym e ∙ ap whole same ∙ f),
)

-- so one is 0 where the other is
pub zero_of : (u : ℚ) (a : ℤ) (x : ℚ) → whole (pos 0) <ℚ u → whole a ≡ u *ℚ x → (x ≡ whole (pos 0)) ↔ (a ≡ pos 0)
zero_of u a x h e = equation_of u a (pos 0) x (whole (pos 0)) h e (ring_ℚ (u ∷ []) (number (pos 0)) (v0 ⊠ number (pos 0)) refl)
