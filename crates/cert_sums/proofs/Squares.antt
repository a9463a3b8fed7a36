-- The squared length of what a projection leaves, as one sum over the column.
use Rattle.std.specs.Prelude.{◌≡◌, ℕ, ◌<◌, [], ◌∷◌, pos}
use Rattle.std.proofs.Common.{refl, sym, ap, ◌∙◌}
use Rattle.rational_laws.specs.Solver.{number, ◌⊟◌, ◌⊠◌, v0, v1, v2, v3}
use Rattle.rational_laws.specs.Rational.{ℚ, ◌-ℚ◌, ◌*ℚ◌, whole}
use Rattle.rational_laws.specs.RationalSums.{sum_ℚ}
use Rattle.rational_laws.proofs.RationalLaws.{ring_ℚ}
use Rattle.rational_laws.proofs.RationalSumLaws.{sum_ℚ-same}
use Rattle.loss_model.specs.Sample.{Sample, fitted}
use Rattle.rank_model.specs.Restricted.{column_sum, projected, IsProjection, squared_length}
use Rattle.rank_model.proofs.Lengths.{sum_ℚ-minus, weighted_fit}
use Rattle.rank_model.proofs.Optimal.{sum_ℚ-single}
use Rattle.cert_sums.specs.Sums.{IsBalancedBut}

module _ (p : Sample) (j : ℕ) (c : ℕ → ℚ) (own : c j ≡ whole (pos 0)) (balanced : IsBalancedBut p j (λ i. p.up1 i *ℚ projected p j c i)) where
  -- a weight may stand with either factor
  moved : (k : ℕ) → sum_ℚ p.rows (λ i. projected p j c i *ℚ (p.up1 i *ℚ p.x i k)) ≡ column_sum p (λ i. p.up1 i *ℚ projected p j c i) k
  moved k =
      sum_ℚ-same p.rows (λ i. projected p j c i *ℚ (p.up1 i *ℚ p.x i k)) (λ i. (p.up1 i *ℚ projected p j c i) *ℚ p.x i k)
      (λ i l. ring_ℚ (projected p j c i ∷ p.up1 i ∷ p.x i k ∷ []) (v0 ⊠ (v1 ⊠ v2)) ((v1 ⊠ v0) ⊠ v2) refl)

  pub projection : IsProjection p j c
  projection = record { own = own; orthogonal = λ k l other. moved k ∙ balanced k l other }

  -- what is left has no fit
  no_fit : j < p.columns → sum_ℚ p.rows (λ i. projected p j c i *ℚ (p.up1 i *ℚ fitted p c i)) ≡ whole (pos 0)
  no_fit within =
      weighted_fit p (projected p j c) c
      ∙ sum_ℚ-single p.columns (λ k. c k *ℚ sum_ℚ p.rows (λ i. projected p j c i *ℚ (p.up1 i *ℚ p.x i k))) j within
      (λ k l other. ap (λ z. c k *ℚ z) (moved k ∙ balanced k l other) ∙ ring_ℚ (c k ∷ []) (v0 ⊠ number (pos 0)) (number (pos 0)) refl)
      ∙ ap (λ z. z *ℚ sum_ℚ p.rows (λ i. projected p j c i *ℚ (p.up1 i *ℚ p.x i j))) own
      ∙ ring_ℚ (sum_ℚ p.rows (λ i. projected p j c i *ℚ (p.up1 i *ℚ p.x i j)) ∷ []) (number (pos 0) ⊠ v0) (number (pos 0)) refl

  pub one_sum : j < p.columns → column_sum p (λ i. p.up1 i *ℚ projected p j c i) j ≡ squared_length p j c
  one_sum within =
      let sum = sum_ℚ p.rows (λ i. projected p j c i *ℚ (p.up1 i *ℚ p.x i j)) in
      sym (sum_ℚ-same p.rows (λ i. projected p j c i *ℚ projected p j c i) (λ i. (projected p j c i *ℚ (p.up1 i *ℚ p.x i j)) -ℚ (projected p j c i *ℚ (p.up1 i *ℚ fitted p c i)))
      (λ i l. ring_ℚ (projected p j c i ∷ p.up1 i ∷ p.x i j ∷ fitted p c i ∷ []) (v0 ⊠ (v1 ⊠ (v2 ⊟ v3))) (v0 ⊠ (v1 ⊠ v2) ⊟ v0 ⊠ (v1 ⊠ v3)) refl)
      ∙ sum_ℚ-minus p.rows (λ i. projected p j c i *ℚ (p.up1 i *ℚ p.x i j)) (λ i. projected p j c i *ℚ (p.up1 i *ℚ fitted p c i))
      ∙ ap (λ z. sum -ℚ z) (no_fit within) ∙ ring_ℚ (sum ∷ []) (v0 ⊟ number (pos 0)) v0 refl ∙ moved j)
