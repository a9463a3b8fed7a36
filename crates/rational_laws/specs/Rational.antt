-- Stated. ℚ, the field of fractions of whole numbers of any size, with its order.
--
-- A fraction is a pair n/d with d at least 1, and two pairs are one fraction where n*d' = n'*d. So ℚ
-- is the quotient of `Pair` by that relation, each operation is the one of pairs, and no common
-- divisor is spoken of. An operation of a quotient is given together with the proof that it has equal
-- results at equal pairs; those proofs stand here, and the laws in `proofs.RationalLaws`.
--
--     x +ℚ y, x -ℚ y, x *ℚ y, neg_ℚ x, inverse x    inverse (whole (pos 0)) is 0
--     whole z                                       a whole number
--     quotient n d                                  n/d
--     x ≤ℚ y, le_ℚ x y                              the order, and its test
use Rattle.std.specs.Prelude.{◌≡◌, ℕ, zero, suc, ℤ, pos, negsuc, ◌+ℤ◌, ◌*ℤ◌, ◌≤ℤ◌, neg_ℤ, Bool, true, false, T, [], ◌∷◌}
use Rattle.std.proofs.Common.{refl, sym, ap, arith, ◌∙◌}
use Rattle.std.proofs.lemmas.Int.{ints}
use lib.Signed.{le_z_yes, le_z}
use Rattle.rational_laws.specs.Integers.{mul_positive, mul-le, le-from_mul}
use mathlib.Core.Bool.{Bool-set}
use mathlib.Core.Quot.{Quot, mk, sound, ind, lift, Quot-set}
use Rattle.rational_laws.specs.Solver.{from1, identity, negated, number, ◌⊞◌, ◌⊠◌, v0, v1, v2, v3, v4, v5}

-- n/d
pub record Pair : Type 0 where
  pub n : ℤ
  pub d : ℤ
  pub positive : pos 1 ≤ℤ d

-- equal by the cross product
abbrev pub Same : Pair → Pair → Type 0
Same a b = a.n *ℤ b.d ≡ b.n *ℤ a.d

-- the fractions of whole numbers
abbrev pub ℚ : Type 0
ℚ = Quot Same

pub ℚ_set : IsSet ℚ
ℚ_set = Quot-set

-- f gives equal results at equal second arguments
abbrev pub RespectsRight : (Pair → Pair → Pair) → Type 0
RespectsRight f = (a b b' : Pair) → Same b b' → Same (f a b) (f a b')

-- and at equal first arguments
abbrev pub RespectsLeft : (Pair → Pair → Pair) → Type 0
RespectsLeft f = (a a' b : Pair) → Same a a' → Same (f a b) (f a' b)

-- f on pairs as an operation on fractions, first with one argument a pair
abbrev pub lift1 : (f : Pair → Pair → Pair) → RespectsRight f → Pair → ℚ → ℚ
lift1 f right a y = lift ℚ_set (λ b. mk (f a b)) (λ b b' s. sound (right a b b' s)) y

pub lift1_same : (f : Pair → Pair → Pair) (left : RespectsLeft f) (right : RespectsRight f) (a a' : Pair) → Same a a' → (y : ℚ)
    → lift1 f right a y ≡ lift1 f right a' y
lift1_same f left right a a' s =
    ind {β = λ y. lift1 f right a y ≡ lift1 f right a' y} (λ y. ℚ_set _ _) (λ b. sound (left a a' b s))

abbrev pub lift2 : (f : Pair → Pair → Pair) → RespectsLeft f → RespectsRight f → ℚ → ℚ → ℚ
lift2 f left right x y = lift ℚ_set (λ a. lift1 f right a y) (λ a a' s. lift1_same f left right a a' s y) x

pub product_positive : (a b : Pair) → pos 1 ≤ℤ (a.d *ℤ b.d)
product_positive a b = mul_positive a.d b.d a.positive b.positive

-- a.n/a.d + b.n/b.d
abbrev pub pair_add : Pair → Pair → Pair
pair_add a b = record { n = (a.n *ℤ b.d) +ℤ (b.n *ℤ a.d); d = a.d *ℤ b.d; positive = product_positive a b }

-- a.n/a.d * b.n/b.d
abbrev pub pair_mul : Pair → Pair → Pair
pair_mul a b = record { n = a.n *ℤ b.n; d = a.d *ℤ b.d; positive = product_positive a b }

pub add_left : (a a' b : Pair) → Same a a' → Same (pair_add a b) (pair_add a' b)
add_left a a' b s =
    (from1 (a.n ∷ a.d ∷ a'.n ∷ a'.d ∷ b.n ∷ b.d ∷ [])
    ((v0 ⊠ v5 ⊞ v4 ⊠ v1) ⊠ (v3 ⊠ v5)) ((v2 ⊠ v5 ⊞ v4 ⊠ v3) ⊠ (v1 ⊠ v5)) (v5 ⊠ v5) (v0 ⊠ v3) (v2 ⊠ v1) refl s)

pub add_right : (a b b' : Pair) → Same b b' → Same (pair_add a b) (pair_add a b')
add_right a b b' s =
    (from1 (a.n ∷ a.d ∷ b.n ∷ b.d ∷ b'.n ∷ b'.d ∷ [])
    ((v0 ⊠ v3 ⊞ v2 ⊠ v1) ⊠ (v1 ⊠ v5)) ((v0 ⊠ v5 ⊞ v4 ⊠ v1) ⊠ (v1 ⊠ v3)) (v1 ⊠ v1) (v2 ⊠ v5) (v4 ⊠ v3) refl s)

pub mul_left : (a a' b : Pair) → Same a a' → Same (pair_mul a b) (pair_mul a' b)
mul_left a a' b s =
    (from1 (a.n ∷ a.d ∷ a'.n ∷ a'.d ∷ b.n ∷ b.d ∷ [])
    ((v0 ⊠ v4) ⊠ (v3 ⊠ v5)) ((v2 ⊠ v4) ⊠ (v1 ⊠ v5)) (v4 ⊠ v5) (v0 ⊠ v3) (v2 ⊠ v1) refl s)

pub mul_right : (a b b' : Pair) → Same b b' → Same (pair_mul a b) (pair_mul a b')
mul_right a b b' s =
    (from1 (a.n ∷ a.d ∷ b.n ∷ b.d ∷ b'.n ∷ b'.d ∷ [])
    ((v0 ⊠ v2) ⊠ (v1 ⊠ v5)) ((v0 ⊠ v4) ⊠ (v1 ⊠ v3)) (v0 ⊠ v1) (v2 ⊠ v5) (v4 ⊠ v3) refl s)

-- the sum
infixl 6 ◌+ℚ◌
unfoldable pub ◌+ℚ◌ : ℚ → ℚ → ℚ
x +ℚ y = lift2 pair_add add_left add_right x y

-- the product
infixl 7 ◌*ℚ◌
unfoldable pub ◌*ℚ◌ : ℚ → ℚ → ℚ
x *ℚ y = lift2 pair_mul mul_left mul_right x y

-- -(a.n/a.d)
abbrev pub pair_neg : Pair → Pair
pair_neg a = record { n = neg_ℤ a.n; d = a.d; positive = a.positive }

pub neg_same : (a b : Pair) → Same a b → Same (pair_neg a) (pair_neg b)
neg_same a b s = from1 (a.n ∷ a.d ∷ b.n ∷ b.d ∷ []) (negated v0 ⊠ v3) (negated v2 ⊠ v1) (negated (number (pos 1))) (v0 ⊠ v3) (v2 ⊠ v1) refl s

-- the negated fraction
unfoldable pub neg_ℚ : ℚ → ℚ
neg_ℚ x = lift ℚ_set (λ a. mk (pair_neg a)) (λ a b s. sound (neg_same a b s)) x

-- the whole number z
unfoldable pub whole : ℤ → ℚ
whole z = mk (record { n = z; d = pos 1; positive = le_z_yes tt })

-- the difference
infixl 6 ◌-ℚ◌
abbrev pub ◌-ℚ◌ : ℚ → ℚ → ℚ
x -ℚ y = x +ℚ neg_ℚ y

-- a is at most b, by the cross product
abbrev pub pair_le : Pair → Pair → Bool
pair_le a b = le_z (a.n *ℤ b.d) (b.n *ℤ a.d)

pub to_le : (a b : ℤ) → le_z a b ≡ true → a ≤ℤ b
to_le a b h = omega (arith, ints)

pub from_le : (a b : ℤ) → a ≤ℤ b → le_z a b ≡ true
from_le a b h = sym (is_true (le_z a b) h.le)
  where
    is_true : (t : Bool) → T t → true ≡ t
    is_true true h = refl
    is_true false h = absurd h

decided : (s t : Bool) → (s ≡ true → t ≡ true) → (t ≡ true → s ≡ true) → s ≡ t
decided true t f g = sym (f refl)
decided false true f g = g refl
decided false false f g = refl

-- a positive factor keeps a test
le_z-mul : (k a b : ℤ) → pos 1 ≤ℤ k → le_z a b ≡ le_z (k *ℤ a) (k *ℤ b)
le_z-mul k a b p = decided (le_z a b) (le_z (k *ℤ a) (k *ℤ b))
    (λ h. from_le (k *ℤ a) (k *ℤ b) (mul-le k a b (omega (arith, ints)) (to_le a b h)))
    (λ h. from_le a b (le-from_mul k a b p (to_le (k *ℤ a) (k *ℤ b) h)))

pub pair_le_left : (a a' b : Pair) → Same a a' → pair_le a b ≡ pair_le a' b
pair_le_left a a' b s =
    le_z-mul a'.d (a.n *ℤ b.d) (b.n *ℤ a.d) a'.positive
    ∙ ap (λ z. le_z z (a'.d *ℤ (b.n *ℤ a.d))) (from1 (a.n ∷ a.d ∷ a'.n ∷ a'.d ∷ b.n ∷ b.d ∷ []) (v3 ⊠ (v0 ⊠ v5)) (v1 ⊠ (v2 ⊠ v5)) v5 (v0 ⊠ v3) (v2 ⊠ v1) refl s)
    ∙ ap (λ z. le_z (a.d *ℤ (a'.n *ℤ b.d)) z) (identity (a.n ∷ a.d ∷ a'.n ∷ a'.d ∷ b.n ∷ b.d ∷ []) (v3 ⊠ (v4 ⊠ v1)) (v1 ⊠ (v4 ⊠ v3)) refl)
    ∙ sym (le_z-mul a.d (a'.n *ℤ b.d) (b.n *ℤ a'.d) a.positive)

pub pair_le_right : (a b b' : Pair) → Same b b' → pair_le a b ≡ pair_le a b'
pair_le_right a b b' s =
    le_z-mul b'.d (a.n *ℤ b.d) (b.n *ℤ a.d) b'.positive
    ∙ ap (λ z. le_z z (b'.d *ℤ (b.n *ℤ a.d))) (identity (a.n ∷ a.d ∷ b.n ∷ b.d ∷ b'.n ∷ b'.d ∷ []) (v5 ⊠ (v0 ⊠ v3)) (v3 ⊠ (v0 ⊠ v5)) refl)
    ∙ ap (λ z. le_z (b.d *ℤ (a.n *ℤ b'.d)) z) (from1 (a.n ∷ a.d ∷ b.n ∷ b.d ∷ b'.n ∷ b'.d ∷ []) (v5 ⊠ (v2 ⊠ v1)) (v3 ⊠ (v4 ⊠ v1)) v1 (v2 ⊠ v5) (v4 ⊠ v3) refl s)
    ∙ sym (le_z-mul b.d (a.n *ℤ b'.d) (b'.n *ℤ a.d) b.positive)

-- the test of a pair and a fraction
abbrev pub test_right : Pair → ℚ → Bool
test_right a y = lift Bool-set (λ b. pair_le a b) (λ b b' s. pair_le_right a b b' s) y

pub test_same : (a a' : Pair) → Same a a' → (y : ℚ) → test_right a y ≡ test_right a' y
test_same a a' s = ind {β = λ y. test_right a y ≡ test_right a' y} (λ y. Bool-set _ _) (λ b. pair_le_left a a' b s)

-- whether x is at most y
unfoldable pub le_ℚ : ℚ → ℚ → Bool
le_ℚ x y = lift Bool-set (λ a. test_right a y) (λ a a' s. test_same a a' s y) x

-- x is at most y
infix 50 ◌≤ℚ◌
pub record ◌≤ℚ◌ (x y : ℚ) : Type 0 where
  pub le : le_ℚ x y ≡ true

pub suc_positive : (k : ℕ) → pos 1 ≤ℤ pos (suc k)
suc_positive k = omega (arith, ints)

-- 1/(n/d), and 0 for 0
abbrev pub inverse_at : ℤ → (d : ℤ) → pos 1 ≤ℤ d → Pair
inverse_at (pos zero) d p = record { n = pos 0; d = pos 1; positive = le_z_yes tt }
inverse_at (pos (suc k)) d p = record { n = d; d = pos (suc k); positive = suc_positive k }
inverse_at (negsuc k) d p = record { n = neg_ℤ d; d = pos (suc k); positive = suc_positive k }

-- 1/a
abbrev pub pair_inverse : Pair → Pair
pair_inverse a = inverse_at a.n a.d a.positive

inverse_respects : (n n' d d' : ℤ) (p : pos 1 ≤ℤ d) (q : pos 1 ≤ℤ d') → n *ℤ d' ≡ n' *ℤ d → Same (inverse_at n d p) (inverse_at n' d' q)
inverse_respects (pos zero) (pos zero) d d' p q s = refl
inverse_respects (pos zero) (pos (suc k)) d d' p q s = absurd (omega (arith, ints, mul_positive (pos (suc k)) d (suc_positive k) p))
inverse_respects (pos zero) (negsuc k) d d' p q s = absurd (omega (arith, ints, mul_positive (pos (suc k)) d (suc_positive k) p))
inverse_respects (pos (suc j)) (pos zero) d d' p q s = absurd (omega (arith, ints, mul_positive (pos (suc j)) d' (suc_positive j) q))
inverse_respects (pos (suc j)) (pos (suc k)) d d' p q s = omega (arith, ints)
inverse_respects (pos (suc j)) (negsuc k) d d' p q s = absurd (omega
    (arith, ints, mul_positive (pos (suc j)) d' (suc_positive j) q, mul_positive (pos (suc k)) d (suc_positive k) p))
inverse_respects (negsuc j) (pos zero) d d' p q s = absurd (omega (arith, ints, mul_positive (pos (suc j)) d' (suc_positive j) q))
inverse_respects (negsuc j) (pos (suc k)) d d' p q s = absurd (omega
    (arith, ints, mul_positive (pos (suc j)) d' (suc_positive j) q, mul_positive (pos (suc k)) d (suc_positive k) p))
inverse_respects (negsuc j) (negsuc k) d d' p q s = from1 (d ∷ d' ∷ pos (suc j) ∷ pos (suc k) ∷ []) (negated v0 ⊠ v3) (negated v1 ⊠ v2) (number (negsuc 0))
    (negated v2 ⊠ v1) (negated v3 ⊠ v0) refl s

pub inverse_same : (a b : Pair) → Same a b → Same (pair_inverse a) (pair_inverse b)
inverse_same a b s = inverse_respects a.n b.n a.d b.d a.positive b.positive s

-- 1/x, and 0 for 0
unfoldable pub inverse : ℚ → ℚ
inverse x = lift ℚ_set (λ a. mk (pair_inverse a)) (λ a b s. sound (inverse_same a b s)) x

-- n/d as a fraction
abbrev pub quotient : ℤ → ℕ → ℚ
quotient n d = whole n *ℚ inverse (whole (pos d))
