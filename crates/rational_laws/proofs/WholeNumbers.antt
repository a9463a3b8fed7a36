-- Whole numbers among the fractions: an equation or an order of fractions, said of whole numbers,
-- and the other way.
--
--     into ℚ      whole-neg, whole-le, whole-sum, whole-positive, whole-negative
--                 (whole-add and whole-mul are in `proofs.RationalLaws`)
--     out of ℚ    same_from_whole a b e, le_from_whole a b h
--     pairs       same_from a b e: equal fractions have equal cross products
--
-- For a + b ≤ c of whole numbers from h : (whole a +ℚ whole b) ≤ℚ whole c:
--
--     le_from_whole (a +ℤ b) c (subst (λ z. z ≤ℚ whole c) (sym (whole-add a b)) h)
use Rattle.std.specs.Prelude.{◌≡◌, ℕ, zero, suc, Bool, true, false, cond, ℤ, pos, negsuc, ◌*ℤ◌, ◌≤ℤ◌, neg_ℤ}
use Rattle.std.proofs.Common.{arith, refl, sym, ap, subst, ◌∙◌}
use Rattle.std.proofs.lemmas.Int.{ints}
use lib.Signed.{le_z_yes}
use mathlib.Core.Quot.{mk}
use Rattle.rational_laws.specs.IntegerSums.{sum_to, positive_part, negative_part}
use Rattle.rational_laws.specs.Rational.{ℚ, Pair, Same, ◌+ℚ◌, neg_ℚ, whole, ◌≤ℚ◌, le_ℚ, to_le, from_le}
use Rattle.rational_laws.proofs.RationalLaws.{whole-add, ≤ℚ_refl}
use Rattle.rational_laws.specs.RationalSums.{sum_ℚ, positive_ℚ, negative_ℚ}

-- equal fractions have equal cross products
pub same_from : (a b : Pair) → ◌≡◌ {A = ℚ} (mk a) (mk b) → Same a b
unfolding le_ℚ
same_from a b e =
    let there : le_ℚ (mk a) (mk b) ≡ true = subst (λ z. le_ℚ (mk a) z ≡ true) e (≤ℚ_refl (mk a)).le in
    let back : le_ℚ (mk b) (mk a) ≡ true = subst (λ z. le_ℚ z (mk a) ≡ true) e (≤ℚ_refl (mk a)).le in
    omega (arith, ints, to_le (a.n *ℤ b.d) (b.n *ℤ a.d) there, to_le (b.n *ℤ a.d) (a.n *ℤ b.d) back)

pub whole-le : (a b : ℤ) → a ≤ℤ b → whole a ≤ℚ whole b
unfolding whole le_ℚ
whole-le a b h = record { le = from_le (a *ℤ pos 1) (b *ℤ pos 1) (omega (arith, ints)) }

pub le_from_whole : (a b : ℤ) → whole a ≤ℚ whole b → a ≤ℤ b
unfolding whole le_ℚ
le_from_whole a b h = omega (arith, ints, to_le (a *ℤ pos 1) (b *ℤ pos 1) h.le)

pub same_from_whole : (a b : ℤ) → whole a ≡ whole b → a ≡ b
unfolding whole
same_from_whole a b e =
    omega (arith, ints, same_from (record { n = a; d = pos 1; positive = le_z_yes tt }) (record { n = b; d = pos 1; positive = le_z_yes tt }) e)

pub whole-neg : (a : ℤ) → whole (neg_ℤ a) ≡ neg_ℚ (whole a)
unfolding whole neg_ℚ
whole-neg a = refl

pub whole-sum : (n : ℕ) (f : ℕ → ℤ) → whole (sum_to n f) ≡ sum_ℚ n (λ k. whole (f k))
whole-sum zero f = refl
whole-sum (suc n) f = whole-add (sum_to n f) (f n) ∙ ap (λ z. z +ℚ whole (f n)) (whole-sum n f)

positive_when : (x : ℚ) (t : Bool) → le_ℚ (whole (pos 0)) x ≡ t → positive_ℚ x ≡ cond t x (whole (pos 0))
positive_when x t h = ap (λ t. cond t x (whole (pos 0))) h

negative_when : (x : ℚ) (t : Bool) → le_ℚ (whole (pos 0)) x ≡ t → negative_ℚ x ≡ cond t (whole (pos 0)) (neg_ℚ x)
negative_when x t h = ap (λ t. cond t (whole (pos 0)) (neg_ℚ x)) h

below : (n : ℕ) → le_ℚ (whole (pos 0)) (whole (negsuc n)) ≡ false
below n = by (le_ℚ (whole (pos 0)) (whole (negsuc n))) refl
  where
    by : (t : Bool) → le_ℚ (whole (pos 0)) (whole (negsuc n)) ≡ t → le_ℚ (whole (pos 0)) (whole (negsuc n)) ≡ false
    by true h = absurd (omega (arith, ints, le_from_whole (pos 0) (negsuc n) (record { le = h })))
    by false h = h

pub whole-positive : (z : ℤ) → whole (positive_part z) ≡ positive_ℚ (whole z)
whole-positive (pos n) = sym (positive_when (whole (pos n)) true (whole-le (pos 0) (pos n) (omega (arith, ints))).le)
whole-positive (negsuc n) = sym (positive_when (whole (negsuc n)) false (below n))

pub whole-negative : (z : ℤ) → whole (negative_part z) ≡ negative_ℚ (whole z)
whole-negative (pos zero) = sym (negative_when (whole (pos 0)) true (≤ℚ_refl (whole (pos 0))).le)
whole-negative (pos (suc n)) = sym (negative_when (whole (pos (suc n))) true (whole-le (pos 0) (pos (suc n)) (omega (arith, ints))).le)
whole-negative (negsuc n) = sym (negative_when (whole (negsuc n)) false (below n) ∙ sym (whole-neg (negsuc n)))
