-- What perturbed losses are.
use Rattle.std.specs.Prelude.{◌≡◌, ℕ, suc, ◌<◌, Bool, true, false, cond, [], ◌∷◌, pos}
use Rattle.std.proofs.Common.{refl, sym, ap, subst, ◌∙◌}
use Rattle.rational_laws.specs.Solver.{number, negated, ◌⊞◌, ◌⊠◌, v0, v1, v2, v3, v4}
use Rattle.rational_laws.specs.Rational.{ℚ, ◌+ℚ◌, ◌*ℚ◌, neg_ℚ, whole, le_ℚ, ◌≤ℚ◌}
use Rattle.rational_laws.proofs.RationalLaws.{ring_ℚ, ≤ℚ_refl, ≤ℚ_antisym}
use Rattle.rational_laws.specs.RationalSums.{sum_ℚ, positive_ℚ, negative_ℚ}
use Rattle.rational_laws.proofs.RationalSumLaws.{sum_ℚ-same, sum_ℚ-add, sum_ℚ-scale}
use Rattle.loss_model.specs.declared.vertex.Side.{Side}
use Rattle.loss_model.specs.declared.vertex.Side.TheVariants.{Up, Down, Basic}
use Rattle.loss_model.specs.Sample.{Sample, up_cost, down_cost, residual, row_loss, loss}
use Rattle.loss_model.specs.Vertex.{IsOn}
use Rattle.basis_model.specs.Perturbed.{turned}
use Rattle.basis_model.proofs.PerturbedLaws.{held_coordinate-at}
use Rattle.basis_model.specs.Basis.{IsBasis, coefficient, side_at}
use Rattle.basis_model.specs.PerturbedLoss.{by_side, perturbed_size, perturbed_loss, change_list, perturbed_coefficient}
use Rattle.pivot_model.proofs.Sides.{on_side}

-- both parts of a residual, where it is known whether it lies above 0
parts : (u o r : ℚ) (t : Bool) → le_ℚ (whole (pos 0)) r ≡ t → (u *ℚ positive_ℚ r) +ℚ (o *ℚ negative_ℚ r) ≡ (u *ℚ cond t r (whole (pos 0))) +ℚ (o *ℚ cond t (whole (pos 0)) (neg_ℚ r))
parts u o r t e = ap (λ t. (u *ℚ cond t r (whole (pos 0))) +ℚ (o *ℚ cond t (whole (pos 0)) (neg_ℚ r))) e

loss_above : (u o r : ℚ) → whole (pos 0) ≤ℚ r → u *ℚ r ≡ (u *ℚ positive_ℚ r) +ℚ (o *ℚ negative_ℚ r)
loss_above u o r h = ring_ℚ (u ∷ o ∷ r ∷ []) (v0 ⊠ v2) (v0 ⊠ v2 ⊞ v1 ⊠ number (pos 0)) refl ∙ sym (parts u o r true h.le)

loss_below : (u o r : ℚ) → r ≤ℚ whole (pos 0) → o *ℚ neg_ℚ r ≡ (u *ℚ positive_ℚ r) +ℚ (o *ℚ negative_ℚ r)
loss_below u o r h = by (le_ℚ (whole (pos 0)) r) refl
  where
    by : (t : Bool) → le_ℚ (whole (pos 0)) r ≡ t → o *ℚ neg_ℚ r ≡ (u *ℚ positive_ℚ r) +ℚ (o *ℚ negative_ℚ r)
    by true e =
        let none : r ≡ whole (pos 0) = ≤ℚ_antisym r (whole (pos 0)) h (record { le = e }) in
        ap (λ z. o *ℚ neg_ℚ z) none
        ∙ ring_ℚ (u ∷ o ∷ []) (v1 ⊠ negated (number (pos 0))) (v0 ⊠ number (pos 0) ⊞ v1 ⊠ number (pos 0)) refl
        ∙ ap (λ z. (u *ℚ z) +ℚ (o *ℚ whole (pos 0))) (sym none)
        ∙ sym (parts u o r true e)
    by false e = ring_ℚ (u ∷ o ∷ r ∷ []) (v1 ⊠ negated v2) (v0 ⊠ number (pos 0) ⊞ v1 ⊠ negated v2) refl ∙ sym (parts u o r false e)

module _ (p : Sample) (at : ℕ → ℕ) (a : ℕ → ℕ → ℚ) where
  -- the cost of a side times the size of a residual that lies on it is the row's loss
  priced : (theta : ℚ) (i : ℕ) (s : Side) (r : ℚ) → IsOn s r
      → by_side (up_cost p theta) (down_cost p theta) i s *ℚ turned s r ≡ (up_cost p theta i *ℚ positive_ℚ r) +ℚ (down_cost p theta i *ℚ negative_ℚ r)
  priced theta i Up r h = loss_above (up_cost p theta i) (down_cost p theta i) r h
  priced theta i Down r h = loss_below (up_cost p theta i) (down_cost p theta i) r h
  priced theta i Basic r h =
      ap (λ z. whole (pos 0) *ℚ z) h
      ∙ ring_ℚ (up_cost p theta i ∷ []) (number (pos 0) ⊠ number (pos 0)) (v0 ⊠ number (pos 0)) refl
      ∙ ap (λ z. up_cost p theta i *ℚ z) (sym h)
      ∙ loss_above (up_cost p theta i) (down_cost p theta i) r (subst (λ z. whole (pos 0) ≤ℚ z) (sym h) (≤ℚ_refl (whole (pos 0))))

  pub begins : IsBasis p at a → (theta : ℚ) → perturbed_loss p at a theta 0 ≡ loss p theta (coefficient p at a)
  begins basis theta =
      sum_ℚ-same p.rows (λ i. by_side (up_cost p theta) (down_cost p theta) i (side_at p at a i) *ℚ perturbed_size p at a 0 i) (row_loss p theta (coefficient p at a))
      (λ i li. priced theta i (side_at p at a i) (residual p (coefficient p at a) i) (on_side p at a basis i))

  pub changes : (theta step : ℚ) (m : ℕ) → perturbed_loss p at a (theta +ℚ step) m ≡ perturbed_loss p at a theta m +ℚ (step *ℚ change_list p at a m)
  changes theta step m =
      sum_ℚ-same p.rows (later (theta +ℚ step)) (λ i. later theta i +ℚ (step *ℚ more i)) (λ i li. moved i (side_at p at a i) (perturbed_size p at a m i))
      ∙ sum_ℚ-add p.rows (later theta) (λ i. step *ℚ more i)
      ∙ ap (λ z. sum_ℚ p.rows (later theta) +ℚ z) (sum_ℚ-scale p.rows step more)
    where
      later : ℚ → ℕ → ℚ
      later theta i = by_side (up_cost p theta) (down_cost p theta) i (side_at p at a i) *ℚ perturbed_size p at a m i

      more : ℕ → ℚ
      more i = by_side p.up1 p.down1 i (side_at p at a i) *ℚ perturbed_size p at a m i

      moved : (i : ℕ) (s : Side) (z : ℚ) → by_side (up_cost p (theta +ℚ step)) (down_cost p (theta +ℚ step)) i s *ℚ z
          ≡ (by_side (up_cost p theta) (down_cost p theta) i s *ℚ z) +ℚ (step *ℚ (by_side p.up1 p.down1 i s *ℚ z))
      moved i Up z = ring_ℚ (p.up0 i ∷ p.up1 i ∷ theta ∷ step ∷ z ∷ []) ((v0 ⊞ v1 ⊠ (v2 ⊞ v3)) ⊠ v4) ((v0 ⊞ v1 ⊠ v2) ⊠ v4 ⊞ v3 ⊠ (v1 ⊠ v4)) refl
      moved i Down z = ring_ℚ (p.down0 i ∷ p.down1 i ∷ theta ∷ step ∷ z ∷ []) ((v0 ⊞ v1 ⊠ (v2 ⊞ v3)) ⊠ v4) ((v0 ⊞ v1 ⊠ v2) ⊠ v4 ⊞ v3 ⊠ (v1 ⊠ v4)) refl
      moved i Basic z = ring_ℚ (step ∷ z ∷ []) (number (pos 0) ⊠ v1) (number (pos 0) ⊠ v1 ⊞ v0 ⊠ (number (pos 0) ⊠ v1)) refl

  pub coefficient_is : IsBasis p at a → (k j : ℕ) → j < p.columns → (perturbed_coefficient p at a k 0 ≡ coefficient p at a k) × (perturbed_coefficient p at a k (suc (at j)) ≡ a k j)
  coefficient_is basis k j lj = (refl, held_coordinate-at p.columns at (a k) j basis.distinct.apart lj)
