-- Law. Sequences added, negated, multiplied and compared term by term. An operation stands with the proofs that its terms come
-- together, and that it gives one number where its arguments are of one (Bishop 1967, chapter 2).
use Rattle.std.specs.Prelude.{◌≡◌, ℕ, ◌+◌, ◌≤◌, [], ◌∷◌, pos}
use Rattle.std.proofs.Common.{arith, refl, sym, subst}
use Rattle.rational_laws.specs.Solver.{number, negated, ◌⊞◌, ◌⊟◌, ◌⊠◌, v0, v1, v2, v3}
use Rattle.rational_laws.specs.Rational.{ℚ, ◌+ℚ◌, ◌-ℚ◌, ◌*ℚ◌, neg_ℚ, whole, ◌≤ℚ◌}
use Rattle.rational_laws.specs.RationalSums.{positive_ℚ, negative_ℚ}
use Rattle.rational_laws.proofs.RationalLaws.{ring_ℚ, ring_by_ℚ, ≤ℚ_trans}
use Rattle.rational_laws.proofs.RationalSumLaws.{parts_ℚ, ≤ℚ_from}
use Rattle.rational_laws.proofs.OrderLaws.{≤ℚ-minus}
use Rattle.rational_laws.proofs.Signs.{sum_not_negative}
use Rattle.loss_model.specs.Strict.{◌<ℚ◌}
use Rattle.real_laws.specs.Fractions.{greater_ℚ}
use Rattle.real_laws.specs.Distances.{one_some, no_distance, half_of, half_some, by_halves, part_of, part_some, part_within, greater_near}
use Rattle.real_laws.specs.Sequences.{Sequence, Same}

-- sequences of equal terms are of one number
pub pointwise : (x y : Sequence) → ((n : ℕ) → x.at n ≡ y.at n) → Same x y
pointwise x y same e some =
    (0, λ n h. (no_distance (x.at n) (y.at n) e (same n) some, no_distance (y.at n) (x.at n) e (sym (same n)) some))

-- a fraction: all terms are it
abbrev pub constant : ℚ → Sequence
constant q = record { at = λ n. q; from = λ e. 0; close = λ e some m n h k. no_distance q q e refl some }

-- ---- sums

pub plus_close : (x y : Sequence) (e : ℚ) → whole (pos 0) <ℚ e → (m n : ℕ)
    → x.from (half_of e) + y.from (half_of e) ≤ m → x.from (half_of e) + y.from (half_of e) ≤ n
    → ((x.at m +ℚ y.at m) -ℚ (x.at n +ℚ y.at n)) ≤ℚ e
plus_close x y e some m n h k =
    by_halves e (x.at m -ℚ x.at n) (y.at m -ℚ y.at n) ((x.at m +ℚ y.at m) -ℚ (x.at n +ℚ y.at n))
    (x.close (half_of e) (half_some e some) m n (omega (arith, h)) (omega (arith, k)))
    (y.close (half_of e) (half_some e some) m n (omega (arith, h)) (omega (arith, k)))
    (ring_ℚ (x.at m ∷ x.at n ∷ y.at m ∷ y.at n ∷ []) ((v0 ⊟ v1) ⊞ (v2 ⊟ v3)) ((v0 ⊞ v2) ⊟ (v1 ⊞ v3)) refl)

-- the sum, term by term
abbrev pub plus_terms : Sequence → Sequence → Sequence
plus_terms x y =
    record { at = λ n. x.at n +ℚ y.at n; from = λ e. x.from (half_of e) + y.from (half_of e); close = plus_close x y }

pub plus_left : (x x' y : Sequence) → Same x x' → Same (plus_terms x y) (plus_terms x' y)
plus_left x x' y s e some =
    let near = s e some in
    (near.0, λ n h. (moved (x.at n) (x'.at n) (y.at n) (near.1 n h).0, moved (x'.at n) (x.at n) (y.at n) (near.1 n h).1))
  where
    moved : (a b c : ℚ) → (a -ℚ b) ≤ℚ e → ((a +ℚ c) -ℚ (b +ℚ c)) ≤ℚ e
    moved a b c h = subst (λ z. z ≤ℚ e) (ring_ℚ (a ∷ b ∷ c ∷ []) (v0 ⊟ v1) ((v0 ⊞ v2) ⊟ (v1 ⊞ v2)) refl) h

pub plus_right : (x y y' : Sequence) → Same y y' → Same (plus_terms x y) (plus_terms x y')
plus_right x y y' s e some =
    let near = s e some in
    (near.0, λ n h. (moved (y.at n) (y'.at n) (x.at n) (near.1 n h).0, moved (y'.at n) (y.at n) (x.at n) (near.1 n h).1))
  where
    moved : (a b c : ℚ) → (a -ℚ b) ≤ℚ e → ((c +ℚ a) -ℚ (c +ℚ b)) ≤ℚ e
    moved a b c h = subst (λ z. z ≤ℚ e) (ring_ℚ (a ∷ b ∷ c ∷ []) (v0 ⊟ v1) ((v2 ⊞ v0) ⊟ (v2 ⊞ v1)) refl) h

-- ---- negated terms

pub minus_close : (x : Sequence) (e : ℚ) → whole (pos 0) <ℚ e → (m n : ℕ) → x.from e ≤ m → x.from e ≤ n
    → (neg_ℚ (x.at m) -ℚ neg_ℚ (x.at n)) ≤ℚ e
minus_close x e some m n h k =
    subst (λ z. z ≤ℚ e) (ring_ℚ (x.at m ∷ x.at n ∷ []) (v1 ⊟ v0) (negated v0 ⊟ negated v1) refl) (x.close e some n m k h)

-- every term negated
abbrev pub minus_terms : Sequence → Sequence
minus_terms x = record { at = λ n. neg_ℚ (x.at n); from = x.from; close = minus_close x }

pub minus_same : (x y : Sequence) → Same x y → Same (minus_terms x) (minus_terms y)
minus_same x y s e some =
    let near = s e some in
    (near.0, λ n h. (moved (x.at n) (y.at n) (near.1 n h).1, moved (y.at n) (x.at n) (near.1 n h).0))
  where
    moved : (a b : ℚ) → (b -ℚ a) ≤ℚ e → (neg_ℚ a -ℚ neg_ℚ b) ≤ℚ e
    moved a b h = subst (λ z. z ≤ℚ e) (ring_ℚ (a ∷ b ∷ []) (v1 ⊟ v0) (negated v0 ⊟ negated v1) refl) h

-- ---- products

-- no term of x from `from 1` on is beyond this, on either side
pub bound_of : Sequence → ℚ
bound_of x = let a = x.at (x.from (whole (pos 1))) in (positive_ℚ a +ℚ negative_ℚ a) +ℚ whole (pos 1)

pub bound_some : (x : Sequence) → whole (pos 0) <ℚ bound_of x
unfolding bound_of
bound_some x h =
    let a = x.at (x.from (whole (pos 1))) in
    let two = parts_ℚ a in
    one_some
    (≤ℚ_trans (whole (pos 1)) (bound_of x) (whole (pos 0))
    (≤ℚ_from (whole (pos 1)) (bound_of x)
    (subst (λ z. whole (pos 0) ≤ℚ z)
    (ring_ℚ (positive_ℚ a ∷ negative_ℚ a ∷ []) (v0 ⊞ v1) (((v0 ⊞ v1) ⊞ number (pos 1)) ⊟ number (pos 1)) refl)
    (sum_not_negative (positive_ℚ a) (negative_ℚ a) two.1 two.2))) h)

pub bounded : (x : Sequence) (n : ℕ) → x.from (whole (pos 1)) ≤ n → (x.at n ≤ℚ bound_of x) × (neg_ℚ (x.at n) ≤ℚ bound_of x)
unfolding bound_of
bounded x n h =
    let first = x.from (whole (pos 1)) in
    let a = x.at first in
    let two = parts_ℚ a in
    let here : first ≤ first = omega arith in
    let vs = x.at n ∷ a ∷ positive_ℚ a ∷ negative_ℚ a ∷ [] in (
      ≤ℚ_from (x.at n) (bound_of x)
          (subst (λ z. whole (pos 0) ≤ℚ z)
          (ring_by_ℚ vs ((number (pos 1) ⊟ (v0 ⊟ v1)) ⊞ (v3 ⊞ v3)) (((v2 ⊞ v3) ⊞ number (pos 1)) ⊟ v0)
          (number (pos 1)) v1 (v2 ⊟ v3) refl two.0)
          (sum_not_negative (whole (pos 1) -ℚ (x.at n -ℚ a)) (negative_ℚ a +ℚ negative_ℚ a)
          ((≤ℚ-minus (x.at n -ℚ a) (whole (pos 1))).0 (x.close (whole (pos 1)) one_some n first h here))
          (sum_not_negative (negative_ℚ a) (negative_ℚ a) two.2 two.2))),
      ≤ℚ_from (neg_ℚ (x.at n)) (bound_of x)
          (subst (λ z. whole (pos 0) ≤ℚ z)
          (ring_by_ℚ vs ((number (pos 1) ⊟ (v1 ⊟ v0)) ⊞ (v2 ⊞ v2)) (((v2 ⊞ v3) ⊞ number (pos 1)) ⊟ negated v0)
          (negated (number (pos 1))) v1 (v2 ⊟ v3) refl two.0)
          (sum_not_negative (whole (pos 1) -ℚ (a -ℚ x.at n)) (positive_ℚ a +ℚ positive_ℚ a)
          ((≤ℚ-minus (a -ℚ x.at n) (whole (pos 1))).0 (x.close (whole (pos 1)) one_some first n here h))
          (sum_not_negative (positive_ℚ a) (positive_ℚ a) two.1 two.1))),
    )

-- from where on the terms of a product are within e
pub times_from : Sequence → Sequence → ℚ → ℕ
times_from x y e =
    (x.from (whole (pos 1)) + y.from (whole (pos 1)))
    + (y.from (part_of (half_of e) (bound_of x)) + x.from (part_of (half_of e) (bound_of y)))

pub times_close : (x y : Sequence) (e : ℚ) → whole (pos 0) <ℚ e → (m n : ℕ) → times_from x y e ≤ m → times_from x y e ≤ n
    → ((x.at m *ℚ y.at m) -ℚ (x.at n *ℚ y.at n)) ≤ℚ e
unfolding times_from
times_close x y e some m n h k =
    let a = part_of (half_of e) (bound_of x) in
    let b = part_of (half_of e) (bound_of y) in
    let a_some = part_some (half_of e) (bound_of x) (half_some e some) (bound_some x) in
    let b_some = part_some (half_of e) (bound_of y) (half_some e some) (bound_some y) in
    let x_bound = bounded x m (omega (arith, h)) in
    let y_bound = bounded y n (omega (arith, k)) in
    by_halves e (x.at m *ℚ (y.at m -ℚ y.at n)) (y.at n *ℚ (x.at m -ℚ x.at n)) ((x.at m *ℚ y.at m) -ℚ (x.at n *ℚ y.at n))
    (part_within (x.at m) (y.at m) (y.at n) (bound_of x) (half_of e) (bound_some x) x_bound.0 x_bound.1
    (y.close a a_some m n (omega (arith, h)) (omega (arith, k))) (y.close a a_some n m (omega (arith, k)) (omega (arith, h))))
    (part_within (y.at n) (x.at m) (x.at n) (bound_of y) (half_of e) (bound_some y) y_bound.0 y_bound.1
    (x.close b b_some m n (omega (arith, h)) (omega (arith, k))) (x.close b b_some n m (omega (arith, k)) (omega (arith, h))))
    (ring_ℚ (x.at m ∷ x.at n ∷ y.at m ∷ y.at n ∷ []) (v0 ⊠ (v2 ⊟ v3) ⊞ v3 ⊠ (v0 ⊟ v1)) (v0 ⊠ v2 ⊟ v1 ⊠ v3) refl)

-- the product, term by term
abbrev pub times_terms : Sequence → Sequence → Sequence
times_terms x y = record { at = λ n. x.at n *ℚ y.at n; from = times_from x y; close = times_close x y }

-- a number within a bound of a sequence keeps products near
near_times : (c a b e : ℚ) (x : Sequence) → (c ≤ℚ bound_of x) → (neg_ℚ c ≤ℚ bound_of x)
    → (a -ℚ b) ≤ℚ part_of e (bound_of x) → (b -ℚ a) ≤ℚ part_of e (bound_of x) → (c *ℚ (a -ℚ b)) ≤ℚ e
near_times c a b e x h k l m = part_within c a b (bound_of x) e (bound_some x) h k l m

pub times_left : (x x' y : Sequence) → Same x x' → Same (times_terms x y) (times_terms x' y)
times_left x x' y s e some =
    let near = s (part_of e (bound_of y)) (part_some e (bound_of y) some (bound_some y)) in (
      near.0 + y.from (whole (pos 1)),
      λ n h.
          let within = bounded y n (omega (arith, h)) in
          let both = near.1 n (omega (arith, h)) in (
            moved (x.at n) (x'.at n) (y.at n) (near_times (y.at n) (x.at n) (x'.at n) e y within.0 within.1 both.0 both.1),
            moved (x'.at n) (x.at n) (y.at n) (near_times (y.at n) (x'.at n) (x.at n) e y within.0 within.1 both.1 both.0),
          ),
    )
  where
    moved : (a b c : ℚ) → (c *ℚ (a -ℚ b)) ≤ℚ e → ((a *ℚ c) -ℚ (b *ℚ c)) ≤ℚ e
    moved a b c h = subst (λ z. z ≤ℚ e) (ring_ℚ (a ∷ b ∷ c ∷ []) (v2 ⊠ (v0 ⊟ v1)) (v0 ⊠ v2 ⊟ v1 ⊠ v2) refl) h

pub times_right : (x y y' : Sequence) → Same y y' → Same (times_terms x y) (times_terms x y')
times_right x y y' s e some =
    let near = s (part_of e (bound_of x)) (part_some e (bound_of x) some (bound_some x)) in (
      near.0 + x.from (whole (pos 1)),
      λ n h.
          let within = bounded x n (omega (arith, h)) in
          let both = near.1 n (omega (arith, h)) in (
            moved (y.at n) (y'.at n) (x.at n) (near_times (x.at n) (y.at n) (y'.at n) e x within.0 within.1 both.0 both.1),
            moved (y'.at n) (y.at n) (x.at n) (near_times (x.at n) (y'.at n) (y.at n) e x within.0 within.1 both.1 both.0),
          ),
    )
  where
    moved : (a b c : ℚ) → (c *ℚ (a -ℚ b)) ≤ℚ e → ((c *ℚ a) -ℚ (c *ℚ b)) ≤ℚ e
    moved a b c h = subst (λ z. z ≤ℚ e) (ring_ℚ (a ∷ b ∷ c ∷ []) (v2 ⊠ (v0 ⊟ v1)) (v2 ⊠ v0 ⊟ v2 ⊠ v1) refl) h

-- ---- the greater of two

pub greater_close : (x y : Sequence) (e : ℚ) → whole (pos 0) <ℚ e → (m n : ℕ) → x.from e + y.from e ≤ m → x.from e + y.from e ≤ n
    → (greater_ℚ (x.at m) (y.at m) -ℚ greater_ℚ (x.at n) (y.at n)) ≤ℚ e
greater_close x y e some m n h k =
    greater_near (x.at m) (x.at n) (y.at m) (y.at n) e
    (x.close e some m n (omega (arith, h)) (omega (arith, k))) (y.close e some m n (omega (arith, h)) (omega (arith, k)))

-- the greater one, term by term
abbrev pub greater_terms : Sequence → Sequence → Sequence
greater_terms x y = record { at = λ n. greater_ℚ (x.at n) (y.at n); from = λ e. x.from e + y.from e; close = greater_close x y }

pub greater_left : (x x' y : Sequence) → Same x x' → Same (greater_terms x y) (greater_terms x' y)
greater_left x x' y s e some =
    let near = s e some in (
      near.0,
      λ n h. (
        greater_near (x.at n) (x'.at n) (y.at n) (y.at n) e (near.1 n h).0 (no_distance (y.at n) (y.at n) e refl some),
        greater_near (x'.at n) (x.at n) (y.at n) (y.at n) e (near.1 n h).1 (no_distance (y.at n) (y.at n) e refl some),
      ),
    )

pub greater_right : (x y y' : Sequence) → Same y y' → Same (greater_terms x y) (greater_terms x y')
greater_right x y y' s e some =
    let near = s e some in (
      near.0,
      λ n h. (
        greater_near (x.at n) (x.at n) (y.at n) (y'.at n) e (no_distance (x.at n) (x.at n) e refl some) (near.1 n h).0,
        greater_near (x.at n) (x.at n) (y'.at n) (y.at n) e (no_distance (x.at n) (x.at n) e refl some) (near.1 n h).1,
      ),
    )
