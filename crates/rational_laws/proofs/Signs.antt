-- Signs of sums, products and negatives, and what 0 does beside them.
--
--     not negative      sum_not_negative, product_not_negative, whole_not_negative
--     not 0             positive_nonzero, whole_nonzero, some_product
--     a negative        neg-neg, negative_below
--     0                 plus-zero, zero-times, times-zero
--     by a comparison   not_below, below_trans
use Rattle.std.specs.Ordering.{is_lt}
use Rattle.std.specs.declared.cmp.Ordering.TheVariants.{Less}
use Rattle.std.proofs.Common.{◌≡◌, ◌≢◌, ◌*◌, ◌≤◌, ℕ, zero, suc, true, false, ℤ, pos, ◌*ℤ◌, ◌≤ℤ◌, [], ◌∷◌, arith, refl, sym, ap, subst, ◌∙◌}
use Rattle.std.proofs.lemmas.Int.{ints}
use Rattle.rational_laws.specs.Solver.{number, negated, ◌⊞◌, ◌⊠◌, v0}
use Rattle.rational_laws.specs.Rational.{ℚ, ◌+ℚ◌, ◌*ℚ◌, neg_ℚ, whole, ◌≤ℚ◌}
use Rattle.rational_laws.specs.Order.{cmp_ℚ}
use Rattle.rational_laws.proofs.RationalLaws.{ring_ℚ, whole-mul, zero-+ℚ, ≤ℚ_mul, ≤ℚ_refl, ≤ℚ_trans}
use Rattle.rational_laws.proofs.OrderLaws.{by_cmp, cmp_ℚ-Less, le_from_not, ≤ℚ_neg}
use Rattle.rational_laws.proofs.WholeNumbers.{same_from_whole, whole-le}
use Rattle.rational_laws.proofs.RationalSumLaws.{≤ℚ_add2}

pub plus-zero : (x : ℚ) → x ≡ x +ℚ whole (pos 0)
plus-zero x = ring_ℚ (x ∷ []) v0 (v0 ⊞ number (pos 0)) refl

pub zero-times : (x : ℚ) → whole (pos 0) *ℚ x ≡ whole (pos 0)
zero-times x = ring_ℚ (x ∷ []) (number (pos 0) ⊠ v0) (number (pos 0)) refl

pub times-zero : (x : ℚ) → x *ℚ whole (pos 0) ≡ whole (pos 0)
times-zero x = ring_ℚ (x ∷ []) (v0 ⊠ number (pos 0)) (number (pos 0)) refl

pub neg-neg : (x : ℚ) → neg_ℚ (neg_ℚ x) ≡ x
neg-neg x = ring_ℚ (x ∷ []) (negated (negated v0)) v0 refl

pub sum_not_negative : (x y : ℚ) → whole (pos 0) ≤ℚ x → whole (pos 0) ≤ℚ y → whole (pos 0) ≤ℚ (x +ℚ y)
sum_not_negative x y hx hy = subst (λ z. z ≤ℚ (x +ℚ y)) (zero-+ℚ (whole (pos 0))) (≤ℚ_add2 (whole (pos 0)) x (whole (pos 0)) y hx hy)

pub product_not_negative : (x y : ℚ) → whole (pos 0) ≤ℚ x → whole (pos 0) ≤ℚ y → whole (pos 0) ≤ℚ (x *ℚ y)
product_not_negative x y h k = subst (λ z. z ≤ℚ (x *ℚ y)) (times-zero x) (≤ℚ_mul (whole (pos 0)) y x h k)

-- the negative of a number that isn't negative is at most any other such number
pub negative_below : (x y : ℚ) → whole (pos 0) ≤ℚ x → whole (pos 0) ≤ℚ y → neg_ℚ y ≤ℚ x
negative_below x y hx hy =
    ≤ℚ_trans (neg_ℚ y) (whole (pos 0)) x (subst (λ z. neg_ℚ y ≤ℚ z) (ring_ℚ [] (negated (number (pos 0))) (number (pos 0)) refl) (≤ℚ_neg (whole (pos 0)) y hy)) hx

pub positive_nonzero : (x : ℚ) → ¬ (x ≤ℚ whole (pos 0)) → x ≢ whole (pos 0)
positive_nonzero x h e = h (subst (λ z. z ≤ℚ whole (pos 0)) (sym e) (≤ℚ_refl (whole (pos 0))))

pub not_below : (x y : ℚ) → is_lt (cmp_ℚ x y) ≡ false → y ≤ℚ x
not_below x y h =
    by_cmp x y (λ o. is_lt o ≡ false → y ≤ℚ x) (λ l e. absurd (no e)) (λ s e. subst (λ z. y ≤ℚ z) (sym s) (≤ℚ_refl y)) (λ g e. le_from_not y x g) h
  where
    no : true ≡ false → ⊥
    no e = cc

pub below_trans : (x y z : ℚ) → cmp_ℚ x y ≡ Less → cmp_ℚ y z ≡ Less → cmp_ℚ x z ≡ Less
below_trans x y z p q =
    (cmp_ℚ-Less x z).1 (λ back. (cmp_ℚ-Less y z).0 q (≤ℚ_trans z x y back (le_from_not x y ((cmp_ℚ-Less x y).0 p))))

pub whole_not_negative : (n : ℕ) → whole (pos 0) ≤ℚ whole (pos n)
whole_not_negative n = whole-le (pos 0) (pos n) (omega (arith, ints))

pub whole_nonzero : (d : ℤ) → pos 1 ≤ℤ d → whole d ≢ whole (pos 0)
whole_nonzero d h e = let z = same_from_whole d (pos 0) e in omega (arith, ints)

pub whole_product : (m n : ℕ) → whole (pos (m * n)) ≡ whole (pos m) *ℚ whole (pos n)
whole_product m n =
    let e : pos (m * n) ≡ pos m *ℤ pos n = omega (arith, ints) in
    ap whole e ∙ whole-mul (pos m) (pos n)

pub some_product : (a b : ℕ) → 1 ≤ a → 1 ≤ b → 1 ≤ a * b
some_product zero b h k = absurd (omega arith)
some_product (suc a) zero h k = absurd (omega arith)
some_product (suc a) (suc b) h k = omega arith
