-- The dual values of a basis by the rows outside it: each is the negated sum of their bounds times
-- their coordinates.
use Rattle.std.specs.Prelude.{◌≡◌, ℕ, Bool, [], ◌∷◌, pos}
use Rattle.std.proofs.Common.{refl, sym, ap, ap₂, ◌∙◌}
use Rattle.rational_laws.specs.Solver.{number, negated, ◌⊞◌, ◌⊠◌, v0, v1, v2, v3}
use Rattle.rational_laws.specs.Rational.{ℚ, ◌+ℚ◌, ◌*ℚ◌, neg_ℚ, whole}
use Rattle.rational_laws.proofs.RationalLaws.{ring_ℚ}
use Rattle.rational_laws.specs.RationalSums.{sum_ℚ}
use Rattle.rational_laws.proofs.RationalSumLaws.{sum_ℚ-same, sum_ℚ-scale, sum_ℚ-swap, sum_ℚ-mix}
use Rattle.rational_laws.specs.Selections.{is_among}
use Rattle.loss_model.specs.declared.vertex.Side.{Side}
use Rattle.loss_model.specs.declared.vertex.Side.TheVariants.{Up, Down, Basic}
use Rattle.loss_model.specs.Sample.{Sample}
use Rattle.loss_model.specs.Vertex.{value_of_side}
use Rattle.basis_model.specs.declared.part.Part.{Part}
use Rattle.basis_model.specs.declared.part.Part.TheVariants.{Constant, Linear}
use Rattle.basis_model.specs.Basis.{coord, side_at, bound_part, nonbasic_total, basic_dual, dual_value}

module _ (p : Sample) (at : ℕ → ℕ) (a : ℕ → ℕ → ℚ) where
  abbrev pub is_basic : ℕ → Bool
  is_basic i = is_among at p.columns i

  -- the dual value of a row outside the basis, which is a bound, and 0 for a row of the basis
  abbrev pub bound : ℚ → ℕ → ℚ
  bound theta i = value_of_side p theta (λ i. whole (pos 0)) i (side_at p at a i)

  bound_is : (theta : ℚ) (i : ℕ) (s : Side) → value_of_side p theta (λ i. whole (pos 0)) i s ≡ bound_part p Constant i s +ℚ (bound_part p Linear i s *ℚ theta)
  bound_is theta i Up = refl
  bound_is theta i Down = ring_ℚ (p.down0 i ∷ p.down1 i ∷ theta ∷ []) (negated (v0 ⊞ v1 ⊠ v2)) (negated v0 ⊞ negated v1 ⊠ v2) refl
  bound_is theta i Basic = ring_ℚ (theta ∷ []) (number (pos 0)) (number (pos 0) ⊞ number (pos 0) ⊠ v0) refl

  -- the products of three factors may be summed over the rows first
  part_is : (part : Part) (j : ℕ) → basic_dual p at a part j ≡ sum_ℚ p.rows (λ i. neg_ℚ (bound_part p part i (side_at p at a i)) *ℚ coord p a i j)
  part_is part j =
      sum_ℚ-same p.columns (λ k. neg_ℚ (nonbasic_total p (side_at p at a) part k) *ℚ a k j) (λ k. sum_ℚ p.rows (λ i. neg_ℚ (a k j) *ℚ (p.x i k *ℚ b i)))
      (λ k lk. ring_ℚ (nonbasic_total p (side_at p at a) part k ∷ a k j ∷ []) (negated v0 ⊠ v1) (negated v1 ⊠ v0) refl ∙ sym (sum_ℚ-scale p.rows (neg_ℚ (a k j)) (λ i. p.x i k *ℚ b i)))
      ∙ sum_ℚ-swap p.columns p.rows (λ k i. neg_ℚ (a k j) *ℚ (p.x i k *ℚ b i))
      ∙ sum_ℚ-same p.rows (λ i. sum_ℚ p.columns (λ k. neg_ℚ (a k j) *ℚ (p.x i k *ℚ b i))) (λ i. neg_ℚ (b i) *ℚ coord p a i j)
      (λ i li. sum_ℚ-same p.columns (λ k. neg_ℚ (a k j) *ℚ (p.x i k *ℚ b i)) (λ k. neg_ℚ (b i) *ℚ (p.x i k *ℚ a k j)) (λ k lk. ring_ℚ (a k j ∷ p.x i k ∷ b i ∷ []) (negated v0 ⊠ (v1 ⊠ v2)) (negated v2 ⊠ (v1 ⊠ v0)) refl)
      ∙ sum_ℚ-scale p.columns (neg_ℚ (b i)) (λ k. p.x i k *ℚ a k j))
    where
      b : ℕ → ℚ
      b i = bound_part p part i (side_at p at a i)

  pub dual_is : (theta : ℚ) (j : ℕ) → dual_value p at a theta j ≡ neg_ℚ (sum_ℚ p.rows (λ i. bound theta i *ℚ coord p a i j))
  dual_is theta j =
      ap₂ (λ y z. y +ℚ (z *ℚ theta)) (part_is Constant j) (part_is Linear j)
      ∙ ring_ℚ (sum_ℚ p.rows (f Constant) ∷ sum_ℚ p.rows (f Linear) ∷ theta ∷ []) (v0 ⊞ v1 ⊠ v2) (number (pos 1) ⊠ v0 ⊞ v2 ⊠ v1) refl
      ∙ sym (sum_ℚ-mix p.rows (whole (pos 1)) theta (f Constant) (f Linear))
      ∙ sum_ℚ-same p.rows (λ i. (whole (pos 1) *ℚ f Constant i) +ℚ (theta *ℚ f Linear i)) (λ i. neg_ℚ (whole (pos 1)) *ℚ (bound theta i *ℚ coord p a i j))
      (λ i li. ring_ℚ (bound_part p Constant i (side_at p at a i) ∷ bound_part p Linear i (side_at p at a i) ∷ theta ∷ coord p a i j ∷ [])
      (number (pos 1) ⊠ (negated v0 ⊠ v3) ⊞ v2 ⊠ (negated v1 ⊠ v3)) (negated (number (pos 1)) ⊠ ((v0 ⊞ v1 ⊠ v2) ⊠ v3)) refl
      ∙ ap (λ z. neg_ℚ (whole (pos 1)) *ℚ (z *ℚ coord p a i j)) (sym (bound_is theta i (side_at p at a i))))
      ∙ sum_ℚ-scale p.rows (neg_ℚ (whole (pos 1))) (λ i. bound theta i *ℚ coord p a i j)
      ∙ ring_ℚ (sum_ℚ p.rows (λ i. bound theta i *ℚ coord p a i j) ∷ []) (negated (number (pos 1)) ⊠ v0) (negated v0) refl
    where
      f : Part → ℕ → ℚ
      f part i = neg_ℚ (bound_part p part i (side_at p at a i)) *ℚ coord p a i j
