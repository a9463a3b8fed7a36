-- Factors of a scaled problem.
use Rattle.std.specs.Prelude.{◌≡◌, ◌≢◌, ℕ, ◌<◌, [], ◌∷◌, pos}
use Rattle.std.proofs.Common.{refl, sym, ap, ap₂, subst, ◌∙◌}
use Rattle.rational_laws.specs.Solver.{number, ◌⊟◌, ◌⊠◌, v0, v1, v2, v3, v4, v5}
use Rattle.rational_laws.specs.Rational.{ℚ, ◌-ℚ◌, ◌*ℚ◌, inverse, whole}
use Rattle.rational_laws.proofs.RationalLaws.{ring_ℚ, *ℚ-inverse}
use Rattle.rational_laws.proofs.Inverses.{product_nonzero, zero_from_product}
use Rattle.rational_laws.specs.RationalSums.{sum_ℚ}
use Rattle.rational_laws.proofs.RationalSumLaws.{sum_ℚ-same, sum_ℚ-scale}
use Rattle.loss_model.specs.Sample.{Sample, fitted}
use Rattle.rank_model.specs.Restricted.{projected, squared_length}
use Rattle.whole_rows.specs.Scaled.{IsScaled}
use Rattle.gram_check.specs.Laws.{unscaled_factors, ProjectionOfScaled}

module _ (p q : Sample) (s : ℕ → ℚ) (ly lc : ℚ) (j : ℕ) (c : ℕ → ℚ) (lj : j < p.columns) (h : IsScaled p q s ly lc) (some : (k : ℕ) → k < p.columns → s k ≢ whole (pos 0)) where
  term : (i k : ℕ) → i < p.rows → k < p.columns → q.x i k *ℚ c k ≡ s j *ℚ (p.x i k *ℚ unscaled_factors s j c k)
  term i k li lk =
      ap (λ z. z *ℚ c k) (h.x i k li lk)
      ∙ ring_ℚ (s k ∷ p.x i k ∷ c k ∷ []) ((v0 ⊠ v1) ⊠ v2) (number (pos 1) ⊠ ((v0 ⊠ v1) ⊠ v2)) refl
      ∙ ap (λ z. z *ℚ ((s k *ℚ p.x i k) *ℚ c k)) (sym (*ℚ-inverse (s j) (some j lj)))
      ∙ ring_ℚ (s k ∷ p.x i k ∷ c k ∷ s j ∷ inverse (s j) ∷ []) ((v3 ⊠ v4) ⊠ ((v0 ⊠ v1) ⊠ v2)) (v3 ⊠ (v1 ⊠ ((v2 ⊠ v0) ⊠ v4))) refl

  fit : (i : ℕ) → i < p.rows → fitted q c i ≡ s j *ℚ fitted p (unscaled_factors s j c) i
  fit i li =
      ap (λ n. sum_ℚ n (λ k. q.x i k *ℚ c k)) h.columns
      ∙ sum_ℚ-same p.columns (λ k. q.x i k *ℚ c k) (λ k. s j *ℚ (p.x i k *ℚ unscaled_factors s j c k)) (λ k lk. term i k li lk)
      ∙ sum_ℚ-scale p.columns (s j) (λ k. p.x i k *ℚ unscaled_factors s j c k)

  left : (i : ℕ) → i < p.rows → projected q j c i ≡ (lc *ℚ s j) *ℚ projected p j (unscaled_factors s j c) i
  left i li =
      ap₂ (λ u z. u *ℚ z) (h.up1 i li) (ap₂ (λ x z. x -ℚ z) (h.x i j li lj) (fit i li))
      ∙ ring_ℚ (lc ∷ p.up1 i ∷ s j ∷ p.x i j ∷ fitted p (unscaled_factors s j c) i ∷ []) ((v0 ⊠ v1) ⊠ ((v2 ⊠ v3) ⊟ (v2 ⊠ v4))) ((v0 ⊠ v2) ⊠ (v1 ⊠ (v3 ⊟ v4))) refl

  crossed : (k : ℕ) → k < p.columns → sum_ℚ q.rows (λ i. projected q j c i *ℚ (q.up1 i *ℚ q.x i k)) ≡
      ((lc *ℚ s j) *ℚ (lc *ℚ s k)) *ℚ sum_ℚ p.rows (λ i. projected p j (unscaled_factors s j c) i *ℚ (p.up1 i *ℚ p.x i k))
  crossed k lk =
      ap (λ n. sum_ℚ n (λ i. projected q j c i *ℚ (q.up1 i *ℚ q.x i k))) h.rows
      ∙ sum_ℚ-same p.rows (λ i. projected q j c i *ℚ (q.up1 i *ℚ q.x i k)) (λ i. ((lc *ℚ s j) *ℚ (lc *ℚ s k)) *ℚ (projected p j (unscaled_factors s j c) i *ℚ (p.up1 i *ℚ p.x i k)))
      (λ i li. ap₂ (λ a b. a *ℚ b) (left i li) (ap₂ (λ u x. u *ℚ x) (h.up1 i li) (h.x i k li lk))
      ∙ ring_ℚ ((lc *ℚ s j) ∷ projected p j (unscaled_factors s j c) i ∷ lc ∷ p.up1 i ∷ s k ∷ p.x i k ∷ []) ((v0 ⊠ v1) ⊠ ((v2 ⊠ v3) ⊠ (v4 ⊠ v5))) ((v0 ⊠ (v2 ⊠ v4)) ⊠ (v1 ⊠ (v3 ⊠ v5))) refl)
      ∙ sum_ℚ-scale p.rows ((lc *ℚ s j) *ℚ (lc *ℚ s k)) (λ i. projected p j (unscaled_factors s j c) i *ℚ (p.up1 i *ℚ p.x i k))

  squares : squared_length q j c ≡ ((lc *ℚ s j) *ℚ (lc *ℚ s j)) *ℚ squared_length p j (unscaled_factors s j c)
  squares =
      ap (λ n. sum_ℚ n (λ i. projected q j c i *ℚ projected q j c i)) h.rows
      ∙ sum_ℚ-same p.rows (λ i. projected q j c i *ℚ projected q j c i) (λ i. ((lc *ℚ s j) *ℚ (lc *ℚ s j)) *ℚ (projected p j (unscaled_factors s j c) i *ℚ projected p j (unscaled_factors s j c) i))
      (λ i li. ap₂ (λ a b. a *ℚ b) (left i li) (left i li)
      ∙ ring_ℚ ((lc *ℚ s j) ∷ projected p j (unscaled_factors s j c) i ∷ []) ((v0 ⊠ v1) ⊠ (v0 ⊠ v1)) ((v0 ⊠ v0) ⊠ (v1 ⊠ v1)) refl)
      ∙ sum_ℚ-scale p.rows ((lc *ℚ s j) *ℚ (lc *ℚ s j)) (λ i. projected p j (unscaled_factors s j c) i *ℚ projected p j (unscaled_factors s j c) i)

pub projection_of_scaled : ProjectionOfScaled
projection_of_scaled p q s ly lc j c lj h some cost projection = (
  record {
    own = ap (λ z. (z *ℚ s j) *ℚ inverse (s j)) projection.own ∙ ring_ℚ (s j ∷ inverse (s j) ∷ []) ((number (pos 0) ⊠ v0) ⊠ v1) (number (pos 0)) refl;
    orthogonal = λ k lk other.
        zero_from_product ((lc *ℚ s j) *ℚ (lc *ℚ s k)) (sum_ℚ p.rows (λ i. projected p j (unscaled_factors s j c) i *ℚ (p.up1 i *ℚ p.x i k)))
        (sym (crossed p q s ly lc j c lj h some k lk) ∙ projection.orthogonal k (subst (λ n. k < n) (sym h.columns) lk) other)
        (product_nonzero (lc *ℚ s j) (lc *ℚ s k) (product_nonzero lc (s j) cost (some j lj)) (product_nonzero lc (s k) cost (some k lk)));
  },
  squares p q s ly lc j c lj h some,
)
