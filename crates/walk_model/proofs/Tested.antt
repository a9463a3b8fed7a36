-- Walks of a tested value: their dual values and what these weigh.
use Rattle.std.specs.Prelude.{◌≡◌, ℕ, ◌<◌, [], ◌∷◌, pos}
use Rattle.std.proofs.Common.{refl, sym, ap, ◌∙◌}
use Rattle.rational_laws.specs.Solver.{number, negated, ◌⊞◌, ◌⊠◌, v0, v1, v2}
use Rattle.rational_laws.specs.Rational.{ℚ, ◌+ℚ◌, ◌-ℚ◌, ◌*ℚ◌, neg_ℚ, whole}
use Rattle.rational_laws.proofs.RationalLaws.{ring_ℚ}
use Rattle.rational_laws.proofs.RationalSumLaws.{sum_ℚ-same, sum_ℚ-scale}
use Rattle.rational_laws.specs.Terms.{delta}
use Rattle.rational_laws.proofs.TermLaws.{if-same, if-other}
use Rattle.rational_laws.specs.Matrices.{coordinate}
use Rattle.rational_laws.proofs.MatrixLaws.{coordinate-delta}
use Rattle.loss_model.specs.Sample.{Sample, up_cost, down_cost}
use Rattle.pivot_model.specs.declared.direction.Direction.{Direction}
use Rattle.pivot_model.specs.declared.direction.Direction.TheVariants.{Upward, Downward}
use Rattle.pivot_model.specs.Basis.{dual_value}
use Rattle.pivot_model.specs.Steps.{slope}
use Rattle.walk_model.specs.Families.{by_weight, Family, rising_value, falling_value, IsFeasibleIn, basic_at, slope_in}
use Rattle.walk_model.specs.TestedLaws.{WeighAlone}

module _ (p : Sample) (tau : ℚ) (c : ℕ) where
  module _ (at : ℕ → ℕ) (a : ℕ → ℕ → ℚ) where
    module _ (right : ℕ → ℚ) where
      abbrev f : Family
      f = record { sample = p; parameter = by_weight tau; right = right }

      basic_zero : (j : ℕ) → basic_at f at a (whole (pos 0)) j ≡ dual_value p at a tau j
      basic_zero j = ring_ℚ (dual_value p at a tau j ∷ coordinate p.columns a right j ∷ []) (v0 ⊞ v1 ⊠ number (pos 0)) v0 refl

      pub slope_zero : (j : ℕ) (d : Direction) → slope_in f at a (whole (pos 0)) j d ≡ slope p at a tau j d
      slope_zero j Upward = ap (λ z. up_cost p tau (at j) -ℚ z) (basic_zero j)
      slope_zero j Downward = ap (λ z. down_cost p tau (at j) +ℚ z) (basic_zero j)

    pub negated_entry : (j : ℕ) → c < p.columns → coordinate p.columns a (λ k. neg_ℚ (delta c k)) j ≡ neg_ℚ (a c j)
    negated_entry j lc =
        sum_ℚ-same p.columns (λ k. neg_ℚ (delta c k) *ℚ a k j) (λ k. neg_ℚ (whole (pos 1)) *ℚ (delta c k *ℚ a k j)) (λ k lk. ring_ℚ (delta c k ∷ a k j ∷ []) (negated v0 ⊠ v1) (negated (number (pos 1)) ⊠ (v0 ⊠ v1)) refl)
        ∙ sum_ℚ-scale p.columns (neg_ℚ (whole (pos 1))) (λ k. delta c k *ℚ a k j)
        ∙ ap (λ z. neg_ℚ (whole (pos 1)) *ℚ z) (coordinate-delta p.columns a c j lc)
        ∙ ring_ℚ (a c j ∷ []) (negated (number (pos 1)) ⊠ v0) (negated v0) refl

    pub values : (t : ℚ) (j : ℕ) → c < p.columns
        → (basic_at (rising_value p tau c) at a t j ≡ dual_value p at a tau j +ℚ (a c j *ℚ neg_ℚ t))
        × (basic_at (falling_value p tau c) at a t j ≡ dual_value p at a tau j +ℚ (a c j *ℚ t))
    values t j lc = (
      ap (λ z. dual_value p at a tau j +ℚ (z *ℚ t)) (negated_entry j lc)
          ∙ ring_ℚ (dual_value p at a tau j ∷ a c j ∷ t ∷ []) (v0 ⊞ negated v1 ⊠ v2) (v0 ⊞ v1 ⊠ negated v2) refl,
      ap (λ z. dual_value p at a tau j +ℚ (z *ℚ t)) (coordinate-delta p.columns a c j lc),
    )

  module _ (t : ℚ) (e : ℕ → ℚ) (lc : c < p.columns) where
    pub rising_weights : IsFeasibleIn (rising_value p tau c) t e → WeighAlone p c e (neg_ℚ t)
    rising_weights h = (
      h.balanced c lc ∙ ap (λ z. neg_ℚ z *ℚ t) (if-same c c (whole (pos 1)) (whole (pos 0)) refl) ∙ ring_ℚ (t ∷ []) (negated (number (pos 1)) ⊠ v0) (negated v0) refl,
      λ k lk other. h.balanced k lk ∙ ap (λ z. neg_ℚ z *ℚ t) (if-other c k (whole (pos 1)) (whole (pos 0)) (λ s. other (sym s))) ∙ ring_ℚ (t ∷ []) (negated (number (pos 0)) ⊠ v0) (number (pos 0)) refl,
    )

    pub falling_weights : IsFeasibleIn (falling_value p tau c) t e → WeighAlone p c e t
    falling_weights h = (
      h.balanced c lc ∙ ap (λ z. z *ℚ t) (if-same c c (whole (pos 1)) (whole (pos 0)) refl) ∙ ring_ℚ (t ∷ []) (number (pos 1) ⊠ v0) v0 refl,
      λ k lk other. h.balanced k lk ∙ ap (λ z. z *ℚ t) (if-other c k (whole (pos 1)) (whole (pos 0)) (λ s. other (sym s))) ∙ ring_ℚ (t ∷ []) (number (pos 0) ⊠ v0) (number (pos 0)) refl,
    )
