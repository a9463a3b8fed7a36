-- The laws of ℚ. The operations are opaque: a proof sees them by these laws alone. Which law closes which goal:
--
--     an identity of sums and products    ring_ℚ vs a b refl, with terms of `specs.Solver`
--     the same from an equation h         ring_by_ℚ vs a b k l l' refl h
--     x * 1/x = 1                         *ℚ-inverse x h; more in `proofs.Inverses`
--     an order                            ≤ℚ_refl, ≤ℚ_trans, ≤ℚ_antisym, ≤ℚ_add, ≤ℚ_mul, ≤ℚ_total;
--                                         more in `proofs.OrderLaws` and `proofs.RationalSumLaws`
--     whole numbers                       whole-add, whole-mul; more in `proofs.WholeNumbers`
--     a fact of n/d                       `proofs.Quotients`
--
-- For (x + y) * z = y * z + x * z:
--
--     ring_ℚ (x ∷ y ∷ z ∷ []) ((v0 ⊞ v1) ⊠ v2) (v1 ⊠ v2 ⊞ v0 ⊠ v2) refl
use Rattle.std.specs.Prelude.{◌≡◌, zero, suc, ℤ, pos, negsuc, ◌+ℤ◌, ◌*ℤ◌, ◌≤ℤ◌, true, false, List, [], ◌∷◌}
use Rattle.std.proofs.Common.{refl, arith}
use Rattle.std.proofs.lemmas.Int.{ints}
use borrow.Author.Differences.{le-false}
use lib.Signed.{le_z_yes}
use Rattle.rational_laws.proofs.Polynomials.{IsRing, worth, ring, ring_by}
use Rattle.rational_laws.specs.Integers.{mul-le, le-from_mul, mul_not_negative}
use mathlib.Core.Bool.{Bool-set}
use mathlib.Core.HLevel.{Π_prop}
use mathlib.Core.Quot.{mk, sound, ind}
use Rattle.rational_laws.specs.Solver.{Term, from1, identity, vanishes, normal, times, minus, negated, number, ◌⊞◌, ◌⊠◌, v0, v1, v2, v3, v4, v5}
use Rattle.rational_laws.specs.Rational.{Pair, Same, ℚ, ℚ_set, product_positive, pair_add, pair_mul, ◌+ℚ◌, ◌*ℚ◌, neg_ℚ, whole, pair_le, to_le, from_le, le_ℚ, ◌≤ℚ◌, inverse_at, inverse}

-- what holds of all pairs holds of all fractions
pub by1 : (P : ℚ → Type 0) → ((x : ℚ) → IsProp (P x)) → ((a : Pair) → P (mk a)) → (x : ℚ) → P x
by1 P prop f x = ind {β = P} prop f x

pub same_at : (f g : ℚ → ℚ) → ((a : Pair) → f (mk a) ≡ g (mk a)) → (x : ℚ) → f x ≡ g x
same_at f g h = by1 (λ x. f x ≡ g x) (λ x. ℚ_set (f x) (g x)) h

pub same_at2 : (f g : ℚ → ℚ → ℚ) → ((a b : Pair) → f (mk a) (mk b) ≡ g (mk a) (mk b)) → (x y : ℚ) → f x y ≡ g x y
same_at2 f g h x y = same_at (λ x. f x y) (λ x. g x y) (λ a. same_at (λ y. f (mk a) y) (λ y. g (mk a) y) (λ b. h a b) y) x

pub same_at3 : (f g : ℚ → ℚ → ℚ → ℚ) → ((a b c : Pair) → f (mk a) (mk b) (mk c) ≡ g (mk a) (mk b) (mk c)) → (x y z : ℚ) → f x y z ≡ g x y z
same_at3 f g h x y z = same_at2 (λ x y. f x y z) (λ x y. g x y z) (λ a b. same_at (λ z. f (mk a) (mk b) z) (λ z. g (mk a) (mk b) z) (λ c. h a b c) z) x y

pub +ℚ_comm : (x y : ℚ) → x +ℚ y ≡ y +ℚ x
unfolding ◌+ℚ◌ ◌*ℚ◌ neg_ℚ whole
+ℚ_comm = same_at2 (λ x y. x +ℚ y) (λ x y. y +ℚ x) (λ a b. sound (
    (identity (a.n ∷ a.d ∷ b.n ∷ b.d ∷ []) ((v0 ⊠ v3 ⊞ v2 ⊠ v1) ⊠ (v3 ⊠ v1)) ((v2 ⊠ v1 ⊞ v0 ⊠ v3) ⊠ (v1 ⊠ v3)) refl)))

pub *ℚ_comm : (x y : ℚ) → x *ℚ y ≡ y *ℚ x
unfolding ◌+ℚ◌ ◌*ℚ◌ neg_ℚ whole
*ℚ_comm = same_at2 (λ x y. x *ℚ y) (λ x y. y *ℚ x) (λ a b. sound (
    (identity (a.n ∷ a.d ∷ b.n ∷ b.d ∷ []) ((v0 ⊠ v2) ⊠ (v3 ⊠ v1)) ((v2 ⊠ v0) ⊠ (v1 ⊠ v3)) refl)))

pub +ℚ_assoc : (x y z : ℚ) → (x +ℚ y) +ℚ z ≡ x +ℚ (y +ℚ z)
unfolding ◌+ℚ◌ ◌*ℚ◌ neg_ℚ whole
+ℚ_assoc = same_at3 (λ x y z. (x +ℚ y) +ℚ z) (λ x y z. x +ℚ (y +ℚ z)) (λ a b c. sound (
    (identity (a.n ∷ a.d ∷ b.n ∷ b.d ∷ c.n ∷ c.d ∷ [])
    (((v0 ⊠ v3 ⊞ v2 ⊠ v1) ⊠ v5 ⊞ v4 ⊠ (v1 ⊠ v3)) ⊠ (v1 ⊠ (v3 ⊠ v5)))
    ((v0 ⊠ (v3 ⊠ v5) ⊞ (v2 ⊠ v5 ⊞ v4 ⊠ v3) ⊠ v1) ⊠ ((v1 ⊠ v3) ⊠ v5)) refl)))

pub *ℚ_assoc : (x y z : ℚ) → (x *ℚ y) *ℚ z ≡ x *ℚ (y *ℚ z)
unfolding ◌+ℚ◌ ◌*ℚ◌ neg_ℚ whole
*ℚ_assoc = same_at3 (λ x y z. (x *ℚ y) *ℚ z) (λ x y z. x *ℚ (y *ℚ z)) (λ a b c. sound (
    (identity (a.n ∷ a.d ∷ b.n ∷ b.d ∷ c.n ∷ c.d ∷ [])
    (((v0 ⊠ v2) ⊠ v4) ⊠ (v1 ⊠ (v3 ⊠ v5)))
    ((v0 ⊠ (v2 ⊠ v4)) ⊠ ((v1 ⊠ v3) ⊠ v5)) refl)))

pub *ℚ-+ℚ : (x y z : ℚ) → x *ℚ (y +ℚ z) ≡ (x *ℚ y) +ℚ (x *ℚ z)
unfolding ◌+ℚ◌ ◌*ℚ◌ neg_ℚ whole
*ℚ-+ℚ = same_at3 (λ x y z. x *ℚ (y +ℚ z)) (λ x y z. (x *ℚ y) +ℚ (x *ℚ z)) (λ a b c. sound (
    (identity (a.n ∷ a.d ∷ b.n ∷ b.d ∷ c.n ∷ c.d ∷ [])
    ((v0 ⊠ (v2 ⊠ v5 ⊞ v4 ⊠ v3)) ⊠ ((v1 ⊠ v3) ⊠ (v1 ⊠ v5)))
    (((v0 ⊠ v2) ⊠ (v1 ⊠ v5) ⊞ (v0 ⊠ v4) ⊠ (v1 ⊠ v3)) ⊠ (v1 ⊠ (v3 ⊠ v5))) refl)))

pub zero-+ℚ : (x : ℚ) → whole (pos 0) +ℚ x ≡ x
unfolding ◌+ℚ◌ ◌*ℚ◌ neg_ℚ whole
zero-+ℚ = same_at (λ x. whole (pos 0) +ℚ x) (λ x. x) (λ a. sound (
    (identity (a.n ∷ a.d ∷ []) ((number (pos 0) ⊠ v1 ⊞ v0 ⊠ number (pos 1)) ⊠ v1) (v0 ⊠ (number (pos 1) ⊠ v1)) refl)))

pub one-*ℚ : (x : ℚ) → whole (pos 1) *ℚ x ≡ x
unfolding ◌+ℚ◌ ◌*ℚ◌ neg_ℚ whole
one-*ℚ = same_at (λ x. whole (pos 1) *ℚ x) (λ x. x) (λ a. sound (
    (identity (a.n ∷ a.d ∷ []) ((number (pos 1) ⊠ v0) ⊠ v1) (v0 ⊠ (number (pos 1) ⊠ v1)) refl)))

pub +ℚ_invr : (x : ℚ) → x +ℚ neg_ℚ x ≡ whole (pos 0)
unfolding ◌+ℚ◌ ◌*ℚ◌ neg_ℚ whole
+ℚ_invr = same_at (λ x. x +ℚ neg_ℚ x) (λ x. whole (pos 0)) (λ a. sound (
    (identity (a.n ∷ a.d ∷ []) ((v0 ⊠ v1 ⊞ negated v0 ⊠ v1) ⊠ number (pos 1)) (number (pos 0) ⊠ (v1 ⊠ v1)) refl)))

pub whole-add : (a b : ℤ) → whole (a +ℤ b) ≡ whole a +ℚ whole b
unfolding ◌+ℚ◌ ◌*ℚ◌ neg_ℚ whole
whole-add a b = sound (identity (a ∷ b ∷ []) ((v0 ⊞ v1) ⊠ number (pos 1)) ((v0 ⊠ number (pos 1) ⊞ v1 ⊠ number (pos 1)) ⊠ number (pos 1)) refl)

pub whole-mul : (a b : ℤ) → whole (a *ℤ b) ≡ whole a *ℚ whole b
unfolding ◌+ℚ◌ ◌*ℚ◌ neg_ℚ whole
whole-mul a b = sound (identity (a ∷ b ∷ []) ((v0 ⊠ v1) ⊠ number (pos 1)) ((v0 ⊠ v1) ⊠ number (pos 1)) refl)

pub is_ring : IsRing ◌+ℚ◌ ◌*ℚ◌ neg_ℚ whole
is_ring =
    record {
      add_assoc = +ℚ_assoc;
      add_comm = +ℚ_comm;
      zero_add = zero-+ℚ;
      add_neg = +ℚ_invr;
      mul_assoc = *ℚ_assoc;
      mul_comm = *ℚ_comm;
      one_mul = one-*ℚ;
      mul_add = *ℚ-+ℚ;
      embed_add = whole-add;
      embed_mul = whole-mul;
    }

-- what a term is worth
abbrev pub amount : List ℚ → Term → ℚ
amount vs t = worth ◌+ℚ◌ ◌*ℚ◌ neg_ℚ whole vs t

-- two terms with the same polynomial are equal
pub ring_ℚ : (vs : List ℚ) (a b : Term) → vanishes (normal (minus a b)) ≡ true → amount vs a ≡ amount vs b
ring_ℚ vs a b h = ring ◌+ℚ◌ ◌*ℚ◌ neg_ℚ whole is_ring vs a b h

pub ring_by_ℚ : (vs : List ℚ) (a b k l l' : Term) → vanishes (normal (minus (minus a b) (times k (minus l l')))) ≡ true → amount vs l ≡ amount vs l' → amount vs a ≡ amount vs b
ring_by_ℚ vs a b k l l' h e = ring_by ◌+ℚ◌ ◌*ℚ◌ neg_ℚ whole is_ring vs a b k l l' h e

-- what holds of all pairs of pairs holds of all pairs of fractions
at_pairs2 : (P : ℚ → ℚ → Type 0) → ((x y : ℚ) → IsProp (P x y)) → ((a b : Pair) → P (mk a) (mk b)) → (x y : ℚ) → P x y
at_pairs2 P prop h = by1 (λ x. (y : ℚ) → P x y) (λ x. Π_prop (λ y. prop x y)) (λ a. by1 (λ y. P (mk a) y) (λ y. prop (mk a) y) (λ b. h a b))

at_pairs3 : (P : ℚ → ℚ → ℚ → Type 0) → ((x y z : ℚ) → IsProp (P x y z)) → ((a b c : Pair) → P (mk a) (mk b) (mk c)) → (x y z : ℚ) → P x y z
at_pairs3 P prop h = at_pairs2 (λ x y. (z : ℚ) → P x y z) (λ x y. Π_prop (λ z. prop x y z)) (λ a b. by1 (λ z. P (mk a) (mk b) z) (λ z. prop (mk a) (mk b) z) (λ c. h a b c))

pub ≤ℚ_refl : (x : ℚ) → x ≤ℚ x
unfolding le_ℚ
≤ℚ_refl x = record { le = by1 (λ x. le_ℚ x x ≡ true) (λ x. Bool-set _ _) (λ a. from_le (a.n *ℤ a.d) (a.n *ℤ a.d) (omega (arith, ints))) x }

pub ≤ℚ_trans : (x y z : ℚ) → x ≤ℚ y → y ≤ℚ z → x ≤ℚ z
unfolding le_ℚ
≤ℚ_trans x y z h k = record { le = at x y z h.le k.le }
  where
    pairs : (a b c : Pair) → pair_le a b ≡ true → pair_le b c ≡ true → pair_le a c ≡ true
    pairs a b c h k =
        let p = mul-le c.d (a.n *ℤ b.d) (b.n *ℤ a.d) (omega (arith, ints, c.positive)) (to_le _ _ h) in
        let q = mul-le a.d (b.n *ℤ c.d) (c.n *ℤ b.d) (omega (arith, ints, a.positive)) (to_le _ _ k) in
        let vs = a.n ∷ a.d ∷ b.n ∷ b.d ∷ c.n ∷ c.d ∷ [] in
        let e = identity vs (v5 ⊠ (v0 ⊠ v3)) (v3 ⊠ (v0 ⊠ v5)) refl in
        let f = identity vs (v5 ⊠ (v2 ⊠ v1)) (v1 ⊠ (v2 ⊠ v5)) refl in
        let g = identity vs (v1 ⊠ (v4 ⊠ v3)) (v3 ⊠ (v4 ⊠ v1)) refl in
        from_le _ _ (le-from_mul b.d (a.n *ℤ c.d) (c.n *ℤ a.d) b.positive (omega (arith, ints, p, q, e, f, g)))

    at : (x y z : ℚ) → le_ℚ x y ≡ true → le_ℚ y z ≡ true → le_ℚ x z ≡ true
    at = at_pairs3 (λ x y z. le_ℚ x y ≡ true → le_ℚ y z ≡ true → le_ℚ x z ≡ true) (λ x y z. Π_prop (λ h. Π_prop (λ k. Bool-set _ _))) pairs

pub ≤ℚ_antisym : (x y : ℚ) → x ≤ℚ y → y ≤ℚ x → x ≡ y
unfolding le_ℚ
≤ℚ_antisym x y h k = at x y h.le k.le
  where
    at : (x y : ℚ) → le_ℚ x y ≡ true → le_ℚ y x ≡ true → x ≡ y
    at = at_pairs2 (λ x y. le_ℚ x y ≡ true → le_ℚ y x ≡ true → x ≡ y) (λ x y. Π_prop (λ h. Π_prop (λ k. ℚ_set x y)))
        (λ a b h k. sound (omega (arith, ints, to_le (a.n *ℤ b.d) (b.n *ℤ a.d) h, to_le (b.n *ℤ a.d) (a.n *ℤ b.d) k)))

pub ≤ℚ_add : (x y z : ℚ) → x ≤ℚ y → (z +ℚ x) ≤ℚ (z +ℚ y)
unfolding le_ℚ ◌+ℚ◌
≤ℚ_add x y z h = record { le = at x y z h.le }
  where
    pairs : (a b c : Pair) → pair_le a b ≡ true → pair_le (pair_add c a) (pair_add c b) ≡ true
    pairs a b c h =
        let p = mul-le (c.d *ℤ c.d) (a.n *ℤ b.d) (b.n *ℤ a.d) (omega (arith, ints, product_positive c c)) (to_le _ _ h) in
        let vs = a.n ∷ a.d ∷ b.n ∷ b.d ∷ c.n ∷ c.d ∷ [] in
        let e = identity vs ((v4 ⊠ v1 ⊞ v0 ⊠ v5) ⊠ (v5 ⊠ v3)) ((v5 ⊠ v5) ⊠ (v0 ⊠ v3) ⊞ (v4 ⊠ v5) ⊠ (v1 ⊠ v3)) refl in
        let f = identity vs ((v4 ⊠ v3 ⊞ v2 ⊠ v5) ⊠ (v5 ⊠ v1)) ((v5 ⊠ v5) ⊠ (v2 ⊠ v1) ⊞ (v4 ⊠ v5) ⊠ (v1 ⊠ v3)) refl in
        from_le (((c.n *ℤ a.d) +ℤ (a.n *ℤ c.d)) *ℤ (c.d *ℤ b.d)) (((c.n *ℤ b.d) +ℤ (b.n *ℤ c.d)) *ℤ (c.d *ℤ a.d)) (omega (arith, ints, p, e, f))

    at : (x y z : ℚ) → le_ℚ x y ≡ true → le_ℚ (z +ℚ x) (z +ℚ y) ≡ true
    at = at_pairs3 (λ x y z. le_ℚ x y ≡ true → le_ℚ (z +ℚ x) (z +ℚ y) ≡ true) (λ x y z. Π_prop (λ h. Bool-set _ _)) pairs

pub ≤ℚ_mul : (x y z : ℚ) → whole (pos 0) ≤ℚ z → x ≤ℚ y → (z *ℚ x) ≤ℚ (z *ℚ y)
unfolding le_ℚ ◌*ℚ◌ whole
≤ℚ_mul x y z p h = record { le = at x y z p.le h.le }
  where
    pairs : (a b c : Pair) → pair_le (record { n = pos 0; d = pos 1; positive = le_z_yes tt }) c ≡ true → pair_le a b ≡ true → pair_le (pair_mul c a) (pair_mul c b) ≡ true
    pairs a b c s h =
        let some : pos 0 ≤ℤ c.n = omega (arith, ints, to_le (pos 0 *ℤ c.d) (c.n *ℤ pos 1) s) in
        let p = mul-le (c.n *ℤ c.d) (a.n *ℤ b.d) (b.n *ℤ a.d) (mul_not_negative c.n c.d some (omega (arith, ints, c.positive))) (to_le _ _ h) in
        let vs = a.n ∷ a.d ∷ b.n ∷ b.d ∷ c.n ∷ c.d ∷ [] in
        let e = identity vs ((v4 ⊠ v0) ⊠ (v5 ⊠ v3)) ((v4 ⊠ v5) ⊠ (v0 ⊠ v3)) refl in
        let f = identity vs ((v4 ⊠ v2) ⊠ (v5 ⊠ v1)) ((v4 ⊠ v5) ⊠ (v2 ⊠ v1)) refl in
        from_le ((c.n *ℤ a.n) *ℤ (c.d *ℤ b.d)) ((c.n *ℤ b.n) *ℤ (c.d *ℤ a.d)) (omega (arith, ints, p, e, f))

    at : (x y z : ℚ) → le_ℚ (whole (pos 0)) z ≡ true → le_ℚ x y ≡ true → le_ℚ (z *ℚ x) (z *ℚ y) ≡ true
    at = at_pairs3 (λ x y z. le_ℚ (whole (pos 0)) z ≡ true → le_ℚ x y ≡ true → le_ℚ (z *ℚ x) (z *ℚ y) ≡ true) (λ x y z. Π_prop (λ h. Π_prop (λ k. Bool-set _ _))) pairs

pub ≤ℚ_total : (x y : ℚ) → le_ℚ x y ≡ false → y ≤ℚ x
unfolding le_ℚ
≤ℚ_total x y h = record { le = at x y h }
  where
    at : (x y : ℚ) → le_ℚ x y ≡ false → le_ℚ y x ≡ true
    at = at_pairs2 (λ x y. le_ℚ x y ≡ false → le_ℚ y x ≡ true) (λ x y. Π_prop (λ h. Bool-set _ _))
        (λ a b h. from_le (b.n *ℤ a.d) (a.n *ℤ b.d) (omega (arith, ints, le-false (a.n *ℤ b.d) (b.n *ℤ a.d) h)))

inverse_at_is : (n d : ℤ) (p : pos 1 ≤ℤ d) → ((n ≡ pos 0) → ⊥) → Same (pair_mul (record { n = n; d = d; positive = p }) (inverse_at n d p)) (record { n = pos 1; d = pos 1; positive = le_z_yes tt })
inverse_at_is (pos zero) d p h = absurd (h refl)
inverse_at_is (pos (suc k)) d p h = omega (arith, ints)
inverse_at_is (negsuc k) d p h = identity (d ∷ pos (suc k) ∷ []) ((negated v1 ⊠ negated v0) ⊠ number (pos 1)) (number (pos 1) ⊠ (v0 ⊠ v1)) refl

pub *ℚ-inverse : (x : ℚ) → (x ≡ whole (pos 0) → ⊥) → x *ℚ inverse x ≡ whole (pos 1)
unfolding ◌*ℚ◌ whole inverse
*ℚ-inverse = by1 (λ x. (x ≡ whole (pos 0) → ⊥) → x *ℚ inverse x ≡ whole (pos 1)) (λ x. Π_prop (λ h. ℚ_set _ _))
    (λ a h. sound (inverse_at_is a.n a.d a.positive (λ e. h (sound (from1 (a.n ∷ a.d ∷ []) (v0 ⊠ number (pos 1)) (number (pos 0) ⊠ v1) (number (pos 1)) v0 (number (pos 0)) refl e)))))
