-- Law. Proofs on distances of fractions: halves and parts of one, products within bounds, and the greater of two.
use Rattle.std.specs.Prelude.{◌≡◌, ◌≢◌, ◌≤◌, Bool, true, false, [], ◌∷◌, pos}
use Rattle.std.proofs.Common.{arith, refl, sym, subst}
use Rattle.std.proofs.lemmas.Int.{ints}
use Rattle.rational_laws.specs.Solver.{number, negated, ◌⊞◌, ◌⊟◌, ◌⊠◌, v0, v1, v2, v3}
use Rattle.rational_laws.specs.Rational.{ℚ, ◌+ℚ◌, ◌-ℚ◌, ◌*ℚ◌, neg_ℚ, inverse, whole, le_ℚ, ◌≤ℚ◌}
use Rattle.rational_laws.proofs.RationalLaws.{ring_ℚ, ring_by_ℚ, *ℚ-inverse, ≤ℚ_refl, ≤ℚ_trans, ≤ℚ_add, ≤ℚ_mul, ≤ℚ_total}
use Rattle.rational_laws.proofs.RationalSumLaws.{≤ℚ_add2, ≤ℚ_from}
use Rattle.rational_laws.proofs.OrderLaws.{≤ℚ-minus, le_from_not}
use Rattle.rational_laws.proofs.WholeNumbers.{le_from_whole}
use Rattle.rational_laws.proofs.Signs.{product_not_negative, sum_not_negative}
use Rattle.loss_model.specs.Strict.{◌<ℚ◌}
use Rattle.loss_model.proofs.Quotients.{inverse_of}
use Rattle.real_laws.specs.Fractions.{greater_ℚ, left_at_most, right_at_most, greater_is_least}

-- ---- order

pub one_some : whole (pos 0) <ℚ whole (pos 1)
one_some h = absurd (omega (arith, ints, le_from_whole (pos 1) (pos 0) h))

-- equal numbers are at no distance
pub no_distance : (x y e : ℚ) → x ≡ y → whole (pos 0) <ℚ e → (x -ℚ y) ≤ℚ e
no_distance x y e s some =
    subst (λ z. z ≤ℚ e) (ring_by_ℚ (x ∷ y ∷ []) (number (pos 0)) (v0 ⊟ v1) (negated (number (pos 1))) v0 v1 refl s)
    (le_from_not (whole (pos 0)) e some)

-- ---- halves

-- the half of a distance
pub half_of : ℚ → ℚ
half_of e = inverse (whole (pos 2)) *ℚ e

pub halves : (e : ℚ) → half_of e +ℚ half_of e ≡ e
unfolding half_of
halves e =
    let two : 1 ≤ 2 = omega arith in
    ring_by_ℚ (inverse (whole (pos 2)) ∷ e ∷ []) (v0 ⊠ v1 ⊞ v0 ⊠ v1) v1 v1 (number (pos 2) ⊠ v0) (number (pos 1)) refl (inverse_of 2 two)

pub half_some : (e : ℚ) → whole (pos 0) <ℚ e → whole (pos 0) <ℚ half_of e
half_some e some h =
    some (subst (λ z. z ≤ℚ whole (pos 0)) (halves e)
    (subst (λ z. (half_of e +ℚ half_of e) ≤ℚ z) (ring_ℚ [] (number (pos 0) ⊞ number (pos 0)) (number (pos 0)) refl)
    (≤ℚ_add2 (half_of e) (whole (pos 0)) (half_of e) (whole (pos 0)) h h)))

-- two halves make up a distance
pub by_halves : (e a b c : ℚ) → a ≤ℚ half_of e → b ≤ℚ half_of e → a +ℚ b ≡ c → c ≤ℚ e
by_halves e a b c h k s =
    subst (λ z. z ≤ℚ e) s (subst (λ z. (a +ℚ b) ≤ℚ z) (halves e) (≤ℚ_add2 a (half_of e) b (half_of e) h k))

-- ---- parts

-- the part of a distance that a factor of at most b leaves
pub part_of : ℚ → ℚ → ℚ
part_of e b = e *ℚ inverse b

pub part_times : (e b : ℚ) → whole (pos 0) <ℚ b → b *ℚ part_of e b ≡ e
unfolding part_of
part_times e b h =
    ring_by_ℚ (b ∷ inverse b ∷ e ∷ []) (v0 ⊠ (v2 ⊠ v1)) v2 v2 (v0 ⊠ v1) (number (pos 1)) refl (*ℚ-inverse b nonzero)
  where
    nonzero : b ≢ whole (pos 0)
    nonzero s = h (subst (λ z. z ≤ℚ whole (pos 0)) (sym s) (≤ℚ_refl (whole (pos 0))))

pub part_some : (e b : ℚ) → whole (pos 0) <ℚ e → whole (pos 0) <ℚ b → whole (pos 0) <ℚ part_of e b
part_some e b some h k =
    some (subst (λ z. z ≤ℚ whole (pos 0)) (part_times e b h)
    (subst (λ z. (b *ℚ part_of e b) ≤ℚ z) (ring_ℚ (b ∷ []) (v0 ⊠ number (pos 0)) (number (pos 0)) refl)
    (≤ℚ_mul (part_of e b) (whole (pos 0)) b (le_from_not (whole (pos 0)) b h) k)))

-- ---- products

-- a number of which the double isn't negative isn't either
half_known : (z : ℚ) → whole (pos 0) ≤ℚ (z +ℚ z) → whole (pos 0) ≤ℚ z
half_known z h = by (le_ℚ (whole (pos 0)) z) refl
  where
    by : (t : Bool) → le_ℚ (whole (pos 0)) z ≡ t → whole (pos 0) ≤ℚ z
    by true e = record { le = e }
    by false e =
        ≤ℚ_trans (whole (pos 0)) (z +ℚ z) z h
        (subst (λ v. (z +ℚ z) ≤ℚ v) (ring_ℚ (z ∷ []) (v0 ⊞ number (pos 0)) v0 refl)
        (≤ℚ_add z (whole (pos 0)) z (≤ℚ_total (whole (pos 0)) z e)))

-- a number within -b and b, times one within -d and d
product_within : (x y b d : ℚ) → x ≤ℚ b → neg_ℚ x ≤ℚ b → y ≤ℚ d → neg_ℚ y ≤ℚ d → (x *ℚ y) ≤ℚ (b *ℚ d)
product_within x y b d h k l m =
    ≤ℚ_from (x *ℚ y) (b *ℚ d)
    (half_known ((b *ℚ d) -ℚ (x *ℚ y))
    (subst (λ z. whole (pos 0) ≤ℚ z)
    (ring_ℚ (x ∷ y ∷ b ∷ d ∷ [])
    ((v2 ⊟ v0) ⊠ (v3 ⊟ negated v1) ⊞ (v2 ⊟ negated v0) ⊠ (v3 ⊟ v1)) ((v2 ⊠ v3 ⊟ v0 ⊠ v1) ⊞ (v2 ⊠ v3 ⊟ v0 ⊠ v1)) refl)
    (sum_not_negative ((b -ℚ x) *ℚ (d -ℚ neg_ℚ y)) ((b -ℚ neg_ℚ x) *ℚ (d -ℚ y))
    (product_not_negative (b -ℚ x) (d -ℚ neg_ℚ y) ((≤ℚ-minus x b).0 h) ((≤ℚ-minus (neg_ℚ y) d).0 m))
    (product_not_negative (b -ℚ neg_ℚ x) (d -ℚ y) ((≤ℚ-minus (neg_ℚ x) b).0 k) ((≤ℚ-minus y d).0 l)))))

-- a number within -b and b, times a difference that is within the part of e that b leaves
pub part_within : (c x y b e : ℚ) → whole (pos 0) <ℚ b → c ≤ℚ b → neg_ℚ c ≤ℚ b
    → (x -ℚ y) ≤ℚ part_of e b → (y -ℚ x) ≤ℚ part_of e b → (c *ℚ (x -ℚ y)) ≤ℚ e
part_within c x y b e some h k l m =
    subst (λ z. (c *ℚ (x -ℚ y)) ≤ℚ z) (part_times e b some)
    (product_within c (x -ℚ y) b (part_of e b) h k l
    (subst (λ z. z ≤ℚ part_of e b) (ring_ℚ (x ∷ y ∷ []) (v1 ⊟ v0) (negated (v0 ⊟ v1)) refl) m))

-- ---- the greater of two

-- the greater of two numbers is as near to that of two others as they are
pub greater_near : (a a' b b' e : ℚ) → (a -ℚ a') ≤ℚ e → (b -ℚ b') ≤ℚ e → (greater_ℚ a b -ℚ greater_ℚ a' b') ≤ℚ e
greater_near a a' b b' e h k =
    into (greater_ℚ a b) (greater_ℚ a' b')
    (greater_is_least a b (e +ℚ greater_ℚ a' b') (over a a' h (left_at_most a' b')) (over b b' k (right_at_most a' b')))
  where
    into : (u v : ℚ) → u ≤ℚ (e +ℚ v) → (u -ℚ v) ≤ℚ e
    into u v h =
        ≤ℚ_from (u -ℚ v) e
        (subst (λ z. whole (pos 0) ≤ℚ z) (ring_ℚ (u ∷ v ∷ e ∷ []) ((v2 ⊞ v1) ⊟ v0) (v2 ⊟ (v0 ⊟ v1)) refl)
        ((≤ℚ-minus u (e +ℚ v)).0 h))

    over : (u v : ℚ) → (u -ℚ v) ≤ℚ e → v ≤ℚ greater_ℚ a' b' → u ≤ℚ (e +ℚ greater_ℚ a' b')
    over u v h k =
        subst (λ z. z ≤ℚ (e +ℚ greater_ℚ a' b')) (ring_ℚ (u ∷ v ∷ []) ((v0 ⊟ v1) ⊞ v1) v0 refl)
        (≤ℚ_add2 (u -ℚ v) e v (greater_ℚ a' b') h k)
