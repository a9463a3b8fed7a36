-- Losses of records that are repeated.
use Rattle.std.proofs.Common.{◌≡◌, ◌+◌, ℕ, zero, suc, List, [], ◌∷◌, ◌++◌, length, pos, refl, sym, ap, subst, ◌∙◌, arith}
use Rattle.std.specs.Prelude.{replicate}
use Rattle.rational_laws.specs.Solver.{number, negated, ◌⊞◌, ◌⊠◌, v0, v1, v2, v3}
use Rattle.rational_laws.specs.Rational.{ℚ, ◌+ℚ◌, ◌-ℚ◌, ◌*ℚ◌, ◌≤ℚ◌, whole}
use Rattle.rational_laws.proofs.RationalLaws.{whole-add, ring_ℚ}
use Rattle.rational_laws.specs.RationalSums.{sum_ℚ, positive_ℚ, negative_ℚ}
use Rattle.rational_laws.proofs.RationalSumLaws.{sum_ℚ-first}
use Rattle.loss_model.specs.Sample.{loss, row_loss}
use Rattle.whole_model.specs.Repeated.{Observation, WholeWeightsCount, often, once, weighted}

module _ (columns : ℕ) (theta : ℚ) (b : ℕ → ℚ) where
  -- what a record loses by its weight
  abbrev cost : ℚ × Observation → ℚ
  cost r = row_loss (weighted columns (r ∷ [])) theta b 0

  abbrev total : List (ℚ × Observation) → ℚ
  total [] = whole (pos 0)
  total (r ∷ rs) = cost r +ℚ total rs

  loss_total : (rs : List (ℚ × Observation)) → loss (weighted columns rs) theta b ≡ total rs
  loss_total [] = refl
  loss_total (r ∷ rs) =
      sum_ℚ-first (length rs) (row_loss (weighted columns (r ∷ rs)) theta b)
      ∙ ap (λ z. cost r +ℚ z) (loss_total rs)

  total_both : (rs ss : List (ℚ × Observation)) → total (rs ++ ss) ≡ total rs +ℚ total ss
  total_both [] ss = ring_ℚ (total ss ∷ []) v0 (number (pos 0) ⊞ v0) refl
  total_both (r ∷ rs) ss =
      ap (λ z. cost r +ℚ z) (total_both rs ss)
      ∙ ring_ℚ (cost r ∷ total rs ∷ total ss ∷ []) (v0 ⊞ (v1 ⊞ v2)) ((v0 ⊞ v1) ⊞ v2) refl

  total_often : (n : ℕ) (r : ℚ × Observation) → total (replicate n r) ≡ whole (pos n) *ℚ cost r
  total_often zero r = ring_ℚ (cost r ∷ []) (number (pos 0)) (number (pos 0) ⊠ v0) refl
  total_often (suc n) r =
      ap (λ z. cost r +ℚ z) (total_often n r)
      ∙ ring_ℚ (cost r ∷ whole (pos n) ∷ []) (v0 ⊞ v1 ⊠ v0) ((number (pos 1) ⊞ v1) ⊠ v0) refl
      ∙ ap (λ z. z *ℚ cost r) (sym (whole-add (pos 1) (pos n)))
      ∙ ap (λ m. whole (pos m) *ℚ cost r) (let e : 1 + n ≡ suc n = omega arith in e)

  -- a record's loss is its weight times that of the weight 1
  cost_scaled : (w : ℚ) (r : Observation) → cost (w, r) ≡ w *ℚ cost (whole (pos 1), r)
  cost_scaled w r =
      let u = r.y -ℚ sum_ℚ columns (λ k. r.x k *ℚ b k) in
      ring_ℚ (w ∷ theta ∷ positive_ℚ u ∷ negative_ℚ u ∷ [])
      ((number (pos 0) ⊞ v0 ⊠ v1) ⊠ v2 ⊞ (v0 ⊞ negated v0 ⊠ v1) ⊠ v3)
      (v0 ⊠ ((number (pos 0) ⊞ number (pos 1) ⊠ v1) ⊠ v2 ⊞ (number (pos 1) ⊞ negated (number (pos 1)) ⊠ v1) ⊠ v3))
      refl

  totals : (rs : List (ℕ × Observation)) → total (once rs) ≡ total (often rs)
  totals [] = refl
  totals ((n, r) ∷ rs) =
      ap (λ z. cost (whole (pos n), r) +ℚ z) (totals rs)
      ∙ ap (λ z. z +ℚ total (often rs)) (cost_scaled (whole (pos n)) r ∙ sym (total_often n (whole (pos 1), r)))
      ∙ sym (total_both (replicate n (whole (pos 1), r)) (often rs))

  losses : (rs : List (ℕ × Observation)) → loss (weighted columns (once rs)) theta b ≡ loss (weighted columns (often rs)) theta b
  losses rs = loss_total (once rs) ∙ totals rs ∙ sym (loss_total (often rs))

pub whole_weights : (columns : ℕ) (rs : List (ℕ × Observation)) (theta : ℚ) (b : ℕ → ℚ) → WholeWeightsCount columns rs theta b
whole_weights columns rs theta b = record {
  losses = losses columns theta b rs;
  minima = (
    λ least other. subst (λ z. z ≤ℚ loss (weighted columns (often rs)) theta other) (losses columns theta b rs)
        (subst (λ z. loss (weighted columns (once rs)) theta b ≤ℚ z) (losses columns theta other rs) (least other)),
    λ least other. subst (λ z. z ≤ℚ loss (weighted columns (once rs)) theta other) (sym (losses columns theta b rs))
        (subst (λ z. loss (weighted columns (often rs)) theta b ≤ℚ z) (sym (losses columns theta other rs)) (least other)),
  );
}
