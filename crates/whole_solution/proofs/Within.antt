-- Sums of products with numbers in ranges.
use Rattle.std.specs.Prelude.{◌≡◌, ◌⊎◌, ℕ, ℤ, ◌+◌, ◌*◌, ◌<◌, ◌+ℤ◌, ◌*ℤ◌, [], ◌∷◌, length, get_or, slice_index, unsigned_abs, pos}
use Rattle.std.proofs.Common.{refl, sym, ap, ap₂, subst, ◌∙◌, inl, inr}
use Rattle.rational_laws.specs.Solver.{number, negated, ◌⊞◌, ◌⊟◌, ◌⊠◌, v0, v1, v2}
use Rattle.rational_laws.specs.Rational.{ℚ, ◌+ℚ◌, ◌-ℚ◌, ◌*ℚ◌, neg_ℚ, whole, ◌≤ℚ◌}
use Rattle.rational_laws.proofs.RationalLaws.{ring_ℚ, ≤ℚ_mul, whole-add, whole-mul}
use Rattle.rational_laws.specs.RationalSums.{sum_ℚ}
use Rattle.rational_laws.proofs.RationalSumLaws.{sum_ℚ-add, sum_ℚ-le, sum_ℚ-next, sum_ℚ-same, sum_ℚ-scale}
use Rattle.loss_model.specs.Spill.{abs_ℚ}
use Rattle.basis_model.proofs.Ratios.{abs_not_negative}
use Rattle.pivot_model.proofs.Entering.{abs_above, abs_below}
use Rattle.walk_model.proofs.Lines.{decide}
use Rattle.rational_laws.specs.WholeLists.{whole_at}
use Rattle.whole_solution.specs.declared.ranges.Ranges.{Ranges}
use Rattle.whole_solution.specs.Ranges.{at_halves, at_middles, half_at, most_of_products, AreInRanges, ProductsStayInRange}
use Rattle.whole_solution.proofs.Numbers.{whole_read}
use Rattle.whole_solution.proofs.Sizes.{abs_whole, not_above, product_above, product_below, scaled_up, size_by, sum_within}

module _ (n : ℕ) (r : Ranges) (f : ℚ) (x v : ℕ → ℚ) (some : whole (pos 1) ≤ℚ f) (within : AreInRanges n r f x) where
  abbrev rest : ℕ → ℚ
  rest k = (x k -ℚ whole_at r.middles k) *ℚ v k

  split : sum_ℚ n (λ k. x k *ℚ v k) ≡ sum_ℚ n rest +ℚ at_middles n r v
  split =
      sum_ℚ-same n (λ k. x k *ℚ v k) (λ k. rest k +ℚ (whole_at r.middles k *ℚ v k))
      (λ k lk. ring_ℚ (x k ∷ whole_at r.middles k ∷ v k ∷ []) (v0 ⊠ v2) ((v0 ⊟ v1) ⊠ v2 ⊞ v1 ⊠ v2) refl)
      ∙ sum_ℚ-add n rest (λ k. whole_at r.middles k *ℚ v k)

  -- half a width more
  own : (k : ℕ) → (f *ℚ half_at r.halves k) *ℚ abs_ℚ (v k) ≡ f *ℚ (half_at r.halves k *ℚ abs_ℚ (v k))
  own k = ring_ℚ (f ∷ half_at r.halves k ∷ abs_ℚ (v k) ∷ []) ((v0 ⊠ v1) ⊠ v2) (v0 ⊠ (v1 ⊠ v2)) refl

  abbrev wide : ℕ → ℚ
  wide k = f *ℚ (half_at r.halves k *ℚ abs_ℚ (v k))

  rest_above : sum_ℚ n rest ≤ℚ (f *ℚ at_halves n r v)
  rest_above =
      subst (λ z. sum_ℚ n rest ≤ℚ z) (sum_ℚ-scale n f (λ k. half_at r.halves k *ℚ abs_ℚ (v k)))
      (sum_ℚ-le n rest wide
      (λ k lk. subst (λ z. rest k ≤ℚ z) (own k) (product_below (x k -ℚ whole_at r.middles k) (v k) (f *ℚ half_at r.halves k) (within k lk))))

  rest_below : neg_ℚ (sum_ℚ n rest) ≤ℚ (f *ℚ at_halves n r v)
  rest_below =
      subst (λ z. z ≤ℚ (f *ℚ at_halves n r v))
      (sum_ℚ-scale n (neg_ℚ (whole (pos 1))) rest ∙ ring_ℚ (sum_ℚ n rest ∷ []) (negated (number (pos 1)) ⊠ v0) (negated v0) refl)
      (subst (λ z. sum_ℚ n (λ k. neg_ℚ (whole (pos 1)) *ℚ rest k) ≤ℚ z) (sum_ℚ-scale n f (λ k. half_at r.halves k *ℚ abs_ℚ (v k)))
      (sum_ℚ-le n (λ k. neg_ℚ (whole (pos 1)) *ℚ rest k) wide
      (λ k lk. subst (λ z. (neg_ℚ (whole (pos 1)) *ℚ rest k) ≤ℚ z) (own k) (product_above (x k -ℚ whole_at r.middles k) (v k) (f *ℚ half_at r.halves k) (within k lk)))))

  -- the middles stand for all rows, and so need no factor
  abbrev middle : ℚ
  middle = abs_ℚ (at_middles n r v)

  middle_below : middle ≤ℚ (f *ℚ middle)
  middle_below =
      subst (λ z. z ≤ℚ (f *ℚ middle)) (ring_ℚ (middle ∷ []) (number (pos 1) ⊠ v0) v0 refl)
      (scaled_up (whole (pos 1)) f middle some (abs_not_negative (at_middles n r v)))

  in_range : abs_ℚ (sum_ℚ n (λ k. x k *ℚ v k)) ≤ℚ (f *ℚ most_of_products n r v)
  in_range =
      subst (λ z. abs_ℚ z ≤ℚ (f *ℚ most_of_products n r v)) (sym split)
      (subst (λ z. abs_ℚ (sum_ℚ n rest +ℚ at_middles n r v) ≤ℚ z)
      (ring_ℚ (f ∷ at_halves n r v ∷ middle ∷ []) (v0 ⊠ v1 ⊞ v0 ⊠ v2) (v0 ⊠ (v1 ⊞ v2)) refl)
      (sum_within (sum_ℚ n rest) (at_middles n r v) (f *ℚ at_halves n r v) (f *ℚ middle)
      (size_by (sum_ℚ n rest) (λ s. s ≤ℚ (f *ℚ at_halves n r v)) rest_above rest_below) middle_below))

pub products_stay_in_range : ProductsStayInRange
products_stay_in_range = in_range

-- ---- times a number that isn't negative

module _ (c : ℚ) (some : whole (pos 0) ≤ℚ c) where
  abs_scaled : (q : ℚ) → c *ℚ abs_ℚ q ≡ abs_ℚ (c *ℚ q)
  abs_scaled q = by (decide (whole (pos 0)) q)
    where
      none : c *ℚ whole (pos 0) ≡ whole (pos 0)
      none = ring_ℚ (c ∷ []) (v0 ⊠ number (pos 0)) (number (pos 0)) refl

      by : (whole (pos 0) ≤ℚ q) ⊎ ¬ (whole (pos 0) ≤ℚ q) → c *ℚ abs_ℚ q ≡ abs_ℚ (c *ℚ q)
      by (inl h) = ap (λ z. c *ℚ z) (abs_above q h) ∙ sym (abs_above (c *ℚ q) (subst (λ z. z ≤ℚ (c *ℚ q)) none (≤ℚ_mul (whole (pos 0)) q c some h)))
      by (inr h) =
          let down = not_above q h in
          ap (λ z. c *ℚ z) (abs_below q down) ∙ ring_ℚ (c ∷ q ∷ []) (v0 ⊠ negated v1) (negated (v0 ⊠ v1)) refl
          ∙ sym (abs_below (c *ℚ q) (subst (λ z. (c *ℚ q) ≤ℚ z) none (≤ℚ_mul q (whole (pos 0)) c some down)))

  -- the most that the products can be, where the numbers are multiplied
  pub most_scaled : (n : ℕ) (r : Ranges) (v w : ℕ → ℚ) → ((k : ℕ) → k < n → c *ℚ v k ≡ w k) → c *ℚ most_of_products n r v ≡ most_of_products n r w
  most_scaled n r v w same =
      ring_ℚ (c ∷ at_halves n r v ∷ abs_ℚ (at_middles n r v) ∷ []) (v0 ⊠ (v1 ⊞ v2)) (v0 ⊠ v1 ⊞ v0 ⊠ v2) refl
      ∙ ap₂ (λ x y. x +ℚ y) halves (abs_scaled (at_middles n r v) ∙ ap abs_ℚ middles)
    where
      halves : c *ℚ at_halves n r v ≡ at_halves n r w
      halves =
          sym (sum_ℚ-scale n c (λ k. half_at r.halves k *ℚ abs_ℚ (v k)))
          ∙ sum_ℚ-same n (λ k. c *ℚ (half_at r.halves k *ℚ abs_ℚ (v k))) (λ k. half_at r.halves k *ℚ abs_ℚ (w k))
          (λ k lk. ring_ℚ (c ∷ half_at r.halves k ∷ abs_ℚ (v k) ∷ []) (v0 ⊠ (v1 ⊠ v2)) (v1 ⊠ (v0 ⊠ v2)) refl ∙ ap (λ z. half_at r.halves k *ℚ z) (abs_scaled (v k) ∙ ap abs_ℚ (same k lk)))

      middles : c *ℚ at_middles n r v ≡ at_middles n r w
      middles =
          sym (sum_ℚ-scale n c (λ k. whole_at r.middles k *ℚ v k))
          ∙ sum_ℚ-same n (λ k. c *ℚ (whole_at r.middles k *ℚ v k)) (λ k. whole_at r.middles k *ℚ w k)
          (λ k lk. ring_ℚ (c ∷ whole_at r.middles k ∷ v k ∷ []) (v0 ⊠ (v1 ⊠ v2)) (v1 ⊠ (v0 ⊠ v2)) refl ∙ ap (λ z. whole_at r.middles k *ℚ z) (same k lk))

-- ---- of whole numbers, one more

module _ (r : Ranges) (v : ℕ → ℤ) where
  abbrev wholes : ℕ → ℚ
  wholes k = whole (v k)

  pub middles_more : (k : ℕ) (sum next : ℤ) → k < length r.middles → whole sum ≡ at_middles k r wholes → next ≡ sum +ℤ v k *ℤ get_or r.middles k (pos 0) → whole next ≡ at_middles (k + 1) r wholes
  middles_more k sum next lk before is =
      ap whole is ∙ whole-add sum (v k *ℤ get_or r.middles k (pos 0))
      ∙ ap₂ (λ x y. x +ℚ y) before
      (whole-mul (v k) (get_or r.middles k (pos 0)) ∙ ap (λ z. whole (v k) *ℚ z) (sym (whole_read r.middles k lk)) ∙ ring_ℚ (whole (v k) ∷ whole_at r.middles k ∷ []) (v0 ⊠ v1) (v1 ⊠ v0) refl)
      ∙ sym (sum_ℚ-next k (λ k. whole_at r.middles k *ℚ wholes k))

  pub halves_more : (k sum next : ℕ) → whole (pos sum) ≡ at_halves k r wholes → next ≡ sum + unsigned_abs (v k) * slice_index r.halves k → whole (pos next) ≡ at_halves (k + 1) r wholes
  halves_more k sum next before is =
      ap (λ m. whole (pos m)) is ∙ whole-add (pos sum) (pos (unsigned_abs (v k) * slice_index r.halves k))
      ∙ ap₂ (λ x y. x +ℚ y) before
      (whole-mul (pos (unsigned_abs (v k))) (pos (slice_index r.halves k)) ∙ ap (λ z. z *ℚ half_at r.halves k) (sym (abs_whole (v k)))
      ∙ ring_ℚ (abs_ℚ (whole (v k)) ∷ half_at r.halves k ∷ []) (v0 ⊠ v1) (v1 ⊠ v0) refl)
      ∙ sym (sum_ℚ-next k (λ k. half_at r.halves k *ℚ abs_ℚ (wholes k)))

  -- both together
  pub most_is : (n rest most : ℕ) (middle : ℤ) → whole (pos rest) ≡ at_halves n r wholes → whole middle ≡ at_middles n r wholes → most ≡ rest + unsigned_abs middle → whole (pos most) ≡ most_of_products n r wholes
  most_is n rest most middle halves middles is =
      ap (λ m. whole (pos m)) is ∙ whole-add (pos rest) (pos (unsigned_abs middle))
      ∙ ap₂ (λ x y. x +ℚ y) halves (sym (abs_whole middle) ∙ ap abs_ℚ middles)
