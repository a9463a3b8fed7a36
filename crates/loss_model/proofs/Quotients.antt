-- Whole numbers among fractions, their quotients, and positive factors that can be taken away.
use Rattle.std.specs.Prelude.{◌≡◌, ◌≢◌, ℕ, ◌≤◌, ℤ, pos, ◌-ℤ◌, neg_ℤ, [], ◌∷◌}
use Rattle.std.proofs.Common.{arith, refl, sym, ap, subst, ◌∙◌}
use Rattle.std.proofs.lemmas.Int.{ints}
use Rattle.rational_laws.specs.Solver.{number, ◌⊟◌, v0, v1}
use Rattle.rational_laws.specs.Rational.{ℚ, ◌+ℚ◌, ◌-ℚ◌, ◌*ℚ◌, whole, inverse, quotient, ◌≤ℚ◌}
use Rattle.rational_laws.proofs.RationalLaws.{ring_ℚ, whole-add, *ℚ-inverse}
use Rattle.rational_laws.proofs.WholeNumbers.{same_from_whole, le_from_whole, whole-neg}
use Rattle.rational_laws.proofs.Inverses.{*ℚ_cancel}
use Rattle.rational_laws.proofs.OrderLaws.{≤ℚ-minus, ≤ℚ-from_mul}
use Rattle.rational_laws.proofs.Quotients.{denominator-times}
use Rattle.loss_model.specs.Strict.{◌<ℚ◌}

pub whole_some : (n : ℕ) → 1 ≤ n → whole (pos n) ≢ whole (pos 0)
whole_some n h e = absurd (omega (arith, ints, same_from_whole (pos n) (pos 0) e))

-- a positive whole number times its inverse is 1
pub inverse_of : (n : ℕ) → 1 ≤ n → whole (pos n) *ℚ inverse (whole (pos n)) ≡ whole (pos 1)
inverse_of n h = *ℚ-inverse (whole (pos n)) (whole_some n h)

-- c is d times c/d
pub whole-quotient : (c : ℤ) (d : ℕ) → 1 ≤ d → whole c ≡ whole (pos d) *ℚ quotient c d
whole-quotient c d h = sym (denominator-times c d h)

pub whole-sub : (a b : ℤ) → whole (a -ℤ b) ≡ whole a -ℚ whole b
whole-sub a b = whole-add a (neg_ℤ b) ∙ ap (λ z. whole a +ℚ z) (whole-neg b)

-- a positive whole number can be taken away from both sides
pub cancel_whole : (n : ℕ) (x y : ℚ) → 1 ≤ n → whole (pos n) *ℚ x ≡ whole (pos n) *ℚ y → x ≡ y
cancel_whole n x y h e = *ℚ_cancel x y (whole (pos n)) (whole_some n h) e

pub cancel_whole_le : (n : ℕ) (x y : ℚ) → 1 ≤ n → (whole (pos n) *ℚ x) ≤ℚ (whole (pos n) *ℚ y) → x ≤ℚ y
cancel_whole_le n x y h e = ≤ℚ-from_mul x y (whole (pos n)) (λ below. absurd (omega (arith, ints, le_from_whole (pos n) (pos 0) below))) e

-- the difference of two numbers in strict order is positive
pub positive_gap : (x y : ℚ) → x <ℚ y → whole (pos 0) <ℚ (y -ℚ x)
positive_gap x y h k =
    h ((≤ℚ-minus y x).1 (subst (λ z. whole (pos 0) ≤ℚ z) (ring_ℚ (x ∷ y ∷ []) (number (pos 0) ⊟ (v1 ⊟ v0)) (v0 ⊟ v1) refl) ((≤ℚ-minus (y -ℚ x) (whole (pos 0))).0 k)))
