-- Laws of sums of fractions by index. In a loop `for i in 0..n` that adds from the left the invariant
-- `rational (value total) ≡ sum_ℚ l.i f` is kept by `sum_ℚ-next`.
--
--     one more term, at the end or first   sum_ℚ-next n f, sum_ℚ-first n f
--     the same or lesser terms             sum_ℚ-same n f g h, sum_ℚ-le n f g h
--     all terms 0                          sum_ℚ-zero n
--     a sum, a multiple, a mix of terms    sum_ℚ-add, sum_ℚ-scale, sum_ℚ-mix
--     the two orders of a double sum       sum_ℚ-swap m n f
--     x = its positive part - its negative part, neither negative    parts_ℚ x
--     x + z ≤ y + w, and x ≤ y from the difference                   ≤ℚ_add2, ≤ℚ_from
--
-- For the sum of 2 * f k:
--
--     sum_ℚ-scale n (whole (pos 2)) f : sum_ℚ n (λ k. whole (pos 2) *ℚ f k) ≡ whole (pos 2) *ℚ sum_ℚ n f
use Rattle.std.specs.Prelude.{◌≡◌, ℕ, zero, suc, ◌+◌, ◌<◌, Bool, true, false, cond, [], ◌∷◌, pos}
use Rattle.std.proofs.Common.{add-one, arith, refl, sym, ap, subst, ◌∙◌}
use Rattle.rational_laws.specs.Solver.{number, negated, ◌⊞◌, ◌⊟◌, ◌⊠◌, v0, v1, v2, v3, v4, v5}
use Rattle.rational_laws.specs.Rational.{ℚ, ◌+ℚ◌, ◌-ℚ◌, ◌*ℚ◌, neg_ℚ, whole, ◌≤ℚ◌, le_ℚ}
use Rattle.rational_laws.proofs.RationalLaws.{ring_ℚ, zero-+ℚ, ≤ℚ_refl, ≤ℚ_trans, ≤ℚ_add, ≤ℚ_total, +ℚ_comm}
use Rattle.rational_laws.specs.RationalSums.{sum_ℚ, positive_ℚ, negative_ℚ}

pub ≤ℚ_add2 : (x y z w : ℚ) → x ≤ℚ y → z ≤ℚ w → (x +ℚ z) ≤ℚ (y +ℚ w)
≤ℚ_add2 x y z w h k =
    ≤ℚ_trans (x +ℚ z) (x +ℚ w) (y +ℚ w) (≤ℚ_add z w x k)
    (subst (λ v. v ≤ℚ (y +ℚ w)) (+ℚ_comm w x) (subst (λ v. (w +ℚ x) ≤ℚ v) (+ℚ_comm w y) (≤ℚ_add x y w h)))

-- an order by the difference
pub ≤ℚ_from : (x y : ℚ) → whole (pos 0) ≤ℚ (y -ℚ x) → x ≤ℚ y
≤ℚ_from x y h =
    subst (λ v. v ≤ℚ y) (ring_ℚ (x ∷ []) (v0 ⊞ number (pos 0)) v0 refl)
    (subst (λ v. (x +ℚ whole (pos 0)) ≤ℚ v) (ring_ℚ (x ∷ y ∷ []) (v0 ⊞ (v1 ⊟ v0)) v1 refl) (≤ℚ_add (whole (pos 0)) (y -ℚ x) x h))

-- one more term
pub sum_ℚ-next : (n : ℕ) (f : ℕ → ℚ) → sum_ℚ (n + 1) f ≡ sum_ℚ n f +ℚ f n
sum_ℚ-next n f = ap (λ m. sum_ℚ m f) (add-one n)

pub sum_ℚ-first : (n : ℕ) (f : ℕ → ℚ) → sum_ℚ (suc n) f ≡ f 0 +ℚ sum_ℚ n (λ k. f (suc k))
sum_ℚ-first zero f = ring_ℚ (f 0 ∷ []) (number (pos 0) ⊞ v0) (v0 ⊞ number (pos 0)) refl
sum_ℚ-first (suc n) f =
    ap (λ z. z +ℚ f (suc n)) (sum_ℚ-first n f)
    ∙ ring_ℚ (f 0 ∷ sum_ℚ n (λ k. f (suc k)) ∷ f (suc n) ∷ []) ((v0 ⊞ v1) ⊞ v2) (v0 ⊞ (v1 ⊞ v2)) refl

pub sum_ℚ-same : (n : ℕ) (f g : ℕ → ℚ) → ((k : ℕ) → k < n → f k ≡ g k) → sum_ℚ n f ≡ sum_ℚ n g
sum_ℚ-same zero f g h = refl
sum_ℚ-same (suc n) f g h =
    ap (λ z. z +ℚ f n) (sum_ℚ-same n f g (λ k l. h k (omega arith))) ∙ ap (λ z. sum_ℚ n g +ℚ z) (h n (omega arith))

pub sum_ℚ-le : (n : ℕ) (f g : ℕ → ℚ) → ((k : ℕ) → k < n → f k ≤ℚ g k) → sum_ℚ n f ≤ℚ sum_ℚ n g
sum_ℚ-le zero f g h = ≤ℚ_refl (whole (pos 0))
sum_ℚ-le (suc n) f g h = ≤ℚ_add2 (sum_ℚ n f) (sum_ℚ n g) (f n) (g n) (sum_ℚ-le n f g (λ k l. h k (omega arith))) (h n (omega arith))

pub sum_ℚ-zero : (n : ℕ) → sum_ℚ n (λ k. whole (pos 0)) ≡ whole (pos 0)
sum_ℚ-zero zero = refl
sum_ℚ-zero (suc n) = ap (λ z. z +ℚ whole (pos 0)) (sum_ℚ-zero n) ∙ zero-+ℚ (whole (pos 0))

pub sum_ℚ-mix : (n : ℕ) (a b : ℚ) (f g : ℕ → ℚ) → sum_ℚ n (λ k. (a *ℚ f k) +ℚ (b *ℚ g k)) ≡ (a *ℚ sum_ℚ n f) +ℚ (b *ℚ sum_ℚ n g)
sum_ℚ-mix zero a b f g = ring_ℚ (a ∷ b ∷ []) (number (pos 0)) (v0 ⊠ number (pos 0) ⊞ v1 ⊠ number (pos 0)) refl
sum_ℚ-mix (suc n) a b f g =
    ap (λ z. z +ℚ ((a *ℚ f n) +ℚ (b *ℚ g n))) (sum_ℚ-mix n a b f g)
    ∙ ring_ℚ (a ∷ b ∷ sum_ℚ n f ∷ sum_ℚ n g ∷ f n ∷ g n ∷ []) ((v0 ⊠ v2 ⊞ v1 ⊠ v3) ⊞ (v0 ⊠ v4 ⊞ v1 ⊠ v5)) (v0 ⊠ (v2 ⊞ v4) ⊞ v1 ⊠ (v3 ⊞ v5)) refl

pub sum_ℚ-scale : (n : ℕ) (a : ℚ) (f : ℕ → ℚ) → sum_ℚ n (λ k. a *ℚ f k) ≡ a *ℚ sum_ℚ n f
sum_ℚ-scale zero a f = ring_ℚ (a ∷ []) (number (pos 0)) (v0 ⊠ number (pos 0)) refl
sum_ℚ-scale (suc n) a f =
    ap (λ z. z +ℚ (a *ℚ f n)) (sum_ℚ-scale n a f) ∙ ring_ℚ (a ∷ sum_ℚ n f ∷ f n ∷ []) (v0 ⊠ v1 ⊞ v0 ⊠ v2) (v0 ⊠ (v1 ⊞ v2)) refl

pub sum_ℚ-add : (n : ℕ) (f g : ℕ → ℚ) → sum_ℚ n (λ k. f k +ℚ g k) ≡ sum_ℚ n f +ℚ sum_ℚ n g
sum_ℚ-add zero f g = sym (zero-+ℚ (whole (pos 0)))
sum_ℚ-add (suc n) f g =
    ap (λ z. z +ℚ (f n +ℚ g n)) (sum_ℚ-add n f g)
    ∙ ring_ℚ (sum_ℚ n f ∷ sum_ℚ n g ∷ f n ∷ g n ∷ []) ((v0 ⊞ v1) ⊞ (v2 ⊞ v3)) ((v0 ⊞ v2) ⊞ (v1 ⊞ v3)) refl

-- the two orders of a double sum
pub sum_ℚ-swap : (m n : ℕ) (f : ℕ → ℕ → ℚ) → sum_ℚ m (λ i. sum_ℚ n (λ k. f i k)) ≡ sum_ℚ n (λ k. sum_ℚ m (λ i. f i k))
sum_ℚ-swap zero n f = sym (sum_ℚ-zero n)
sum_ℚ-swap (suc m) n f =
    ap (λ z. z +ℚ sum_ℚ n (λ k. f m k)) (sum_ℚ-swap m n f) ∙ sym (sum_ℚ-add n (λ k. sum_ℚ m (λ i. f i k)) (λ k. f m k))

-- a fraction is the difference of its parts, and neither is negative
pub parts_ℚ : (x : ℚ) → (x ≡ positive_ℚ x -ℚ negative_ℚ x) × (whole (pos 0) ≤ℚ positive_ℚ x) × (whole (pos 0) ≤ℚ negative_ℚ x)
parts_ℚ x = by (le_ℚ (whole (pos 0)) x) refl
  where
    by : (t : Bool) → le_ℚ (whole (pos 0)) x ≡ t → (x ≡ cond t x (whole (pos 0)) -ℚ cond t (whole (pos 0)) (neg_ℚ x)) × (whole (pos 0) ≤ℚ cond t x (whole (pos 0))) × (whole (pos 0) ≤ℚ cond t (whole (pos 0)) (neg_ℚ x))
    by true h = (ring_ℚ (x ∷ []) v0 (v0 ⊟ number (pos 0)) refl, record { le = h }, ≤ℚ_refl (whole (pos 0)))
    by false h = (
      ring_ℚ (x ∷ []) v0 (number (pos 0) ⊟ negated v0) refl,
      ≤ℚ_refl (whole (pos 0)),
      ≤ℚ_from (whole (pos 0)) (neg_ℚ x) (subst (λ v. whole (pos 0) ≤ℚ v) (ring_ℚ (x ∷ []) (negated v0) (negated v0 ⊟ number (pos 0)) refl) (negated_le h)),
    )
      where
        negated_le : le_ℚ (whole (pos 0)) x ≡ false → whole (pos 0) ≤ℚ neg_ℚ x
        negated_le h =
            subst (λ v. v ≤ℚ neg_ℚ x) (ring_ℚ (x ∷ []) (negated v0 ⊞ v0) (number (pos 0)) refl)
            (subst (λ v. (neg_ℚ x +ℚ x) ≤ℚ v) (ring_ℚ (x ∷ []) (negated v0 ⊞ number (pos 0)) (negated v0) refl) (≤ℚ_add x (whole (pos 0)) (neg_ℚ x) (≤ℚ_total (whole (pos 0)) x h)))
