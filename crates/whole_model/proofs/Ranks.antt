-- Full rank among fractions and among whole numbers.
use Rattle.std.specs.Prelude.{◌≡◌, ◌↔◌, ℕ, ◌<◌, ◌≤◌, [], ◌∷◌, ℤ, pos, ◌*ℤ◌}
use Rattle.std.proofs.Common.{refl, sym, ap, subst, ◌∙◌}
use Rattle.rational_laws.specs.IntegerSums.{sum_to}
use Rattle.rational_laws.specs.Solver.{number, ◌⊠◌, v0, v1, v2, v3}
use Rattle.rational_laws.specs.Rational.{ℚ, ◌*ℚ◌, whole}
use Rattle.rational_laws.proofs.RationalLaws.{whole-mul, ring_ℚ}
use Rattle.rational_laws.specs.RationalSums.{sum_ℚ}
use Rattle.rational_laws.proofs.RationalSumLaws.{sum_ℚ-same, sum_ℚ-scale}
use Rattle.rational_laws.proofs.WholeNumbers.{same_from_whole, whole-sum}
use Rattle.loss_model.specs.Sample.{Sample, fitted}
use Rattle.whole_model.specs.Scaled.{Scaled}
use Rattle.whole_model.specs.Scaled as integers
use Rattle.loss_model.specs.FullRank.{HasFullRank}
use Rattle.loss_model.proofs.Quotients.{cancel_whole}
use Rattle.whole_model.proofs.CommonDenominators.{IsOver, common_denominator}
use Rattle.whole_model.proofs.Scales.{Scales}

module _ (q : ℕ) (p : Sample) (w : Scaled) (s : Scales q p w) (some : 1 ≤ q) where
  -- the sum of row i with c/d, in units of 1/(q*d)
  fitted_scaled : (c : ℕ → ℤ) (d : ℕ) (v : ℕ → ℚ) → IsOver p.columns c d v → (i : ℕ) → whole (sum_to w.columns (λ k. w.x i k *ℤ c k)) ≡ whole (pos q) *ℚ (whole (pos d) *ℚ fitted p v i)
  fitted_scaled c d v over i =
      whole-sum w.columns (λ k. w.x i k *ℤ c k) ∙ ap (λ n. sum_ℚ n (λ k. whole (w.x i k *ℤ c k))) s.columns
      ∙ sum_ℚ-same p.columns (λ k. whole (w.x i k *ℤ c k)) (λ k. (whole (pos q) *ℚ whole (pos d)) *ℚ (p.x i k *ℚ v k))
      (λ k l. whole-mul (w.x i k) (c k) ∙ ap (λ z. z *ℚ whole (c k)) (s.x i k) ∙ ap (λ z. (whole (pos q) *ℚ p.x i k) *ℚ z) (over.each k l)
      ∙ ring_ℚ (whole (pos q) ∷ whole (pos d) ∷ p.x i k ∷ v k ∷ []) ((v0 ⊠ v2) ⊠ (v1 ⊠ v3)) ((v0 ⊠ v1) ⊠ (v2 ⊠ v3)) refl)
      ∙ sum_ℚ-scale p.columns (whole (pos q) *ℚ whole (pos d)) (λ k. p.x i k *ℚ v k)
      ∙ ring_ℚ (whole (pos q) ∷ whole (pos d) ∷ fitted p v i ∷ []) ((v0 ⊠ v1) ⊠ v2) (v0 ⊠ (v1 ⊠ v2)) refl

  times_zero : (n : ℕ) → whole (pos n) *ℚ whole (pos 0) ≡ whole (pos 0)
  times_zero n = ring_ℚ (whole (pos n) ∷ []) (v0 ⊠ number (pos 0)) (number (pos 0)) refl

  pub full_ranks : HasFullRank p ↔ integers.HasFullRank w
  full_ranks = (
    λ full c gone k l. same_from_whole (c k) (pos 0) (full (λ k. whole (c k)) (λ i li. row c gone i li) k (subst (λ n. k < n) s.columns l)),
    λ full b gone k l.
        let over = common_denominator p.columns b in
        entry full b gone k l over.c over.d over.positive over.over,
  )
    where
      ones : (c : ℕ → ℤ) → IsOver p.columns c 1 (λ k. whole (c k))
      ones c = record { each = λ k l. ring_ℚ (whole (c k) ∷ []) v0 (number (pos 1) ⊠ v0) refl }

      row : (c : ℕ → ℤ) → ((i : ℕ) → i < w.rows → sum_to w.columns (λ k. w.x i k *ℤ c k) ≡ pos 0) → (i : ℕ) → i < p.rows → fitted p (λ k. whole (c k)) i ≡ whole (pos 0)
      row c gone i li =
          cancel_whole q (fitted p (λ k. whole (c k)) i) (whole (pos 0)) some
          (ring_ℚ (whole (pos q) ∷ fitted p (λ k. whole (c k)) i ∷ []) (v0 ⊠ v1) (v0 ⊠ (number (pos 1) ⊠ v1)) refl
          ∙ sym (fitted_scaled c 1 (λ k. whole (c k)) (ones c) i)
          ∙ ap whole (gone i (subst (λ n. i < n) (sym s.rows) li)) ∙ sym (times_zero q))

      entry : integers.HasFullRank w → (b : ℕ → ℚ) → ((i : ℕ) → i < p.rows → fitted p b i ≡ whole (pos 0)) → (k : ℕ) → k < p.columns → (c : ℕ → ℤ) (d : ℕ) → 1 ≤ d → IsOver p.columns c d b → b k ≡ whole (pos 0)
      entry full b gone k l c d hd over =
          cancel_whole d (b k) (whole (pos 0)) hd
          (sym (over.each k l)
          ∙ ap whole (full c (λ i li. same_from_whole (sum_to w.columns (λ k. w.x i k *ℤ c k)) (pos 0)
          (fitted_scaled c d b over i ∙ ap (λ z. whole (pos q) *ℚ (whole (pos d) *ℚ z)) (gone i (subst (λ n. i < n) s.rows li)) ∙ ap (λ z. whole (pos q) *ℚ z) (times_zero d) ∙ times_zero q))
          k (subst (λ n. k < n) (sym s.columns) l))
          ∙ sym (times_zero d))
