-- Absolute values of sums and products.
use Rattle.std.specs.Prelude.{◌≡◌, ◌⊎◌, ℤ, neg_ℤ, unsigned_abs, [], ◌∷◌, pos, negsuc}
use Rattle.std.proofs.Common.{arith, refl, sym, ap, subst, ◌∙◌, inl, inr}
use Rattle.std.proofs.lemmas.Int.{ints}
use Rattle.rational_laws.specs.Solver.{number, negated, ◌⊞◌, ◌⊟◌, ◌⊠◌, v0, v1}
use Rattle.rational_laws.specs.Rational.{ℚ, ◌+ℚ◌, ◌*ℚ◌, neg_ℚ, whole, ◌≤ℚ◌}
use Rattle.rational_laws.proofs.RationalLaws.{ring_ℚ, ≤ℚ_refl, ≤ℚ_trans, ≤ℚ_mul}
use Rattle.rational_laws.proofs.RationalSumLaws.{≤ℚ_add2}
use Rattle.rational_laws.proofs.OrderLaws.{le_from_not}
use Rattle.rational_laws.proofs.WholeNumbers.{whole-le, whole-neg}
use Rattle.loss_model.specs.Spill.{abs_ℚ}
use Rattle.pivot_model.proofs.Entering.{abs_above, abs_below, negated_not_negative}
use Rattle.walk_model.proofs.Lines.{decide, le_by}

pub not_above : (x : ℚ) → ¬ (whole (pos 0) ≤ℚ x) → x ≤ℚ whole (pos 0)
not_above x h = le_from_not x (whole (pos 0)) h

-- a size is one of both
pub size_by : (x : ℚ) (P : ℚ → Type 0) → P x → P (neg_ℚ x) → P (abs_ℚ x)
size_by x P up down = by (decide (whole (pos 0)) x)
  where
    by : (whole (pos 0) ≤ℚ x) ⊎ ¬ (whole (pos 0) ≤ℚ x) → P (abs_ℚ x)
    by (inl h) = subst P (sym (abs_above x h)) up
    by (inr h) = subst P (sym (abs_below x (not_above x h))) down

pub own_size : (x : ℚ) → x ≤ℚ abs_ℚ x
own_size x = by (decide (whole (pos 0)) x)
  where
    by : (whole (pos 0) ≤ℚ x) ⊎ ¬ (whole (pos 0) ≤ℚ x) → x ≤ℚ abs_ℚ x
    by (inl h) = subst (λ z. x ≤ℚ z) (sym (abs_above x h)) (≤ℚ_refl x)
    by (inr h) =
        let down = not_above x h in
        subst (λ z. x ≤ℚ z) (sym (abs_below x down)) (≤ℚ_trans x (whole (pos 0)) (neg_ℚ x) down (negated_not_negative x down))

pub negated_size : (x : ℚ) → neg_ℚ x ≤ℚ abs_ℚ x
negated_size x = by (decide (whole (pos 0)) x)
  where
    by : (whole (pos 0) ≤ℚ x) ⊎ ¬ (whole (pos 0) ≤ℚ x) → neg_ℚ x ≤ℚ abs_ℚ x
    by (inl h) =
        let down : neg_ℚ x ≤ℚ whole (pos 0) = le_by (whole (pos 0)) x (neg_ℚ x) (whole (pos 0)) h (ring_ℚ (x ∷ []) (v0 ⊟ number (pos 0)) (number (pos 0) ⊟ negated v0) refl) in
        subst (λ z. neg_ℚ x ≤ℚ z) (sym (abs_above x h)) (≤ℚ_trans (neg_ℚ x) (whole (pos 0)) x down h)
    by (inr h) = subst (λ z. neg_ℚ x ≤ℚ z) (sym (abs_below x (not_above x h))) (≤ℚ_refl (neg_ℚ x))

-- the size of a whole number
pub abs_whole : (z : ℤ) → abs_ℚ (whole z) ≡ whole (pos (unsigned_abs z))
abs_whole (pos n) = abs_above (whole (pos n)) (whole-le (pos 0) (pos n) (omega (arith, ints)))
abs_whole (negsuc n) =
    let e : neg_ℤ (negsuc n) ≡ pos (unsigned_abs (negsuc n)) = omega (arith, ints) in
    abs_below (whole (negsuc n)) (whole-le (negsuc n) (pos 0) (omega (arith, ints))) ∙ sym (whole-neg (negsuc n)) ∙ ap whole e

-- a number that has no size is 0
pub none_from : (x : ℚ) → abs_ℚ x ≡ whole (pos 0) → x ≡ whole (pos 0)
none_from x = size_by x (λ s. s ≡ whole (pos 0) → x ≡ whole (pos 0)) (λ e. e) (λ e. ring_ℚ (x ∷ []) v0 (negated (negated v0)) refl ∙ ap neg_ℚ e ∙ ring_ℚ [] (negated (number (pos 0))) (number (pos 0)) refl)

pub sum_within : (x y t u : ℚ) → abs_ℚ x ≤ℚ t → abs_ℚ y ≤ℚ u → abs_ℚ (x +ℚ y) ≤ℚ (t +ℚ u)
sum_within x y t u h k =
    size_by (x +ℚ y) (λ s. s ≤ℚ (t +ℚ u))
    (≤ℚ_add2 x t y u (≤ℚ_trans x (abs_ℚ x) t (own_size x) h) (≤ℚ_trans y (abs_ℚ y) u (own_size y) k))
    (subst (λ z. z ≤ℚ (t +ℚ u)) (ring_ℚ (x ∷ y ∷ []) (negated v0 ⊞ negated v1) (negated (v0 ⊞ v1)) refl)
    (≤ℚ_add2 (neg_ℚ x) t (neg_ℚ y) u (≤ℚ_trans (neg_ℚ x) (abs_ℚ x) t (negated_size x) h) (≤ℚ_trans (neg_ℚ y) (abs_ℚ y) u (negated_size y) k)))

-- an order times a number that isn't negative
pub scaled_up : (u t z : ℚ) → u ≤ℚ t → whole (pos 0) ≤ℚ z → (u *ℚ z) ≤ℚ (t *ℚ z)
scaled_up u t z h p =
    subst (λ w. w ≤ℚ (t *ℚ z)) (ring_ℚ (z ∷ u ∷ []) (v0 ⊠ v1) (v1 ⊠ v0) refl)
    (subst (λ w. (z *ℚ u) ≤ℚ w) (ring_ℚ (z ∷ t ∷ []) (v0 ⊠ v1) (v1 ⊠ v0) refl) (≤ℚ_mul u t z p h))

-- a product, by a bound of one factor
module _ (x y t : ℚ) (small : abs_ℚ x ≤ℚ t) where
  below : x ≤ℚ t
  below = ≤ℚ_trans x (abs_ℚ x) t (own_size x) small

  negated_below : neg_ℚ x ≤ℚ t
  negated_below = ≤ℚ_trans (neg_ℚ x) (abs_ℚ x) t (negated_size x) small

  -- by a factor of either sign
  pub product_below : (x *ℚ y) ≤ℚ (t *ℚ abs_ℚ y)
  product_below = by (decide (whole (pos 0)) y)
    where
      by : (whole (pos 0) ≤ℚ y) ⊎ ¬ (whole (pos 0) ≤ℚ y) → (x *ℚ y) ≤ℚ (t *ℚ abs_ℚ y)
      by (inl h) = subst (λ z. (x *ℚ y) ≤ℚ (t *ℚ z)) (sym (abs_above y h)) (scaled_up x t y below h)
      by (inr h) =
          let down = not_above y h in
          subst (λ z. (x *ℚ y) ≤ℚ (t *ℚ z)) (sym (abs_below y down))
          (subst (λ z. z ≤ℚ (t *ℚ neg_ℚ y)) (ring_ℚ (x ∷ y ∷ []) (negated v0 ⊠ negated v1) (v0 ⊠ v1) refl) (scaled_up (neg_ℚ x) t (neg_ℚ y) negated_below (negated_not_negative y down)))

  pub product_above : (neg_ℚ (whole (pos 1)) *ℚ (x *ℚ y)) ≤ℚ (t *ℚ abs_ℚ y)
  product_above = by (decide (whole (pos 0)) y)
    where
      by : (whole (pos 0) ≤ℚ y) ⊎ ¬ (whole (pos 0) ≤ℚ y) → (neg_ℚ (whole (pos 1)) *ℚ (x *ℚ y)) ≤ℚ (t *ℚ abs_ℚ y)
      by (inl h) =
          subst (λ z. (neg_ℚ (whole (pos 1)) *ℚ (x *ℚ y)) ≤ℚ (t *ℚ z)) (sym (abs_above y h))
          (subst (λ z. z ≤ℚ (t *ℚ y)) (ring_ℚ (x ∷ y ∷ []) (negated v0 ⊠ v1) (negated (number (pos 1)) ⊠ (v0 ⊠ v1)) refl) (scaled_up (neg_ℚ x) t y negated_below h))
      by (inr h) =
          let down = not_above y h in
          subst (λ z. (neg_ℚ (whole (pos 1)) *ℚ (x *ℚ y)) ≤ℚ (t *ℚ z)) (sym (abs_below y down))
          (subst (λ z. z ≤ℚ (t *ℚ neg_ℚ y)) (ring_ℚ (x ∷ y ∷ []) (v0 ⊠ negated v1) (negated (number (pos 1)) ⊠ (v0 ⊠ v1)) refl) (scaled_up x t (neg_ℚ y) below (negated_not_negative y down)))
