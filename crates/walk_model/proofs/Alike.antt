-- What steps improve depends on the rows of the basis alone.
use Rattle.std.specs.Prelude.{◌≡◌, ℕ, suc, ◌<◌, Bool, true, false, [], ◌∷◌, pos}
use Rattle.std.proofs.Common.{refl, sym, ap, ap₂, subst, ◌∙◌}
use Rattle.rational_laws.specs.Solver.{number, negated, ◌⊞◌, ◌⊟◌, ◌⊠◌, v0, v1, v2}
use Rattle.rational_laws.specs.Rational.{ℚ, ◌+ℚ◌, ◌-ℚ◌, ◌*ℚ◌, neg_ℚ, whole}
use Rattle.rational_laws.proofs.RationalLaws.{ring_ℚ, ring_by_ℚ}
use Rattle.rational_laws.specs.RationalSums.{sum_ℚ}
use Rattle.rational_laws.proofs.RationalSumLaws.{sum_ℚ-same, sum_ℚ-mix}
use Rattle.rational_laws.proofs.MatrixLaws.{kernel-zero}
use Rattle.rational_laws.specs.Selections.{is_among}
use Rattle.loss_model.specs.declared.vertex.Side.{Side}
use Rattle.loss_model.specs.declared.vertex.Side.TheVariants.{Up, Down, Basic}
use Rattle.loss_model.specs.Sample.{Sample}
use Rattle.pivot_model.specs.Perturbed.{perturbed, zeros, side_of}
use Rattle.pivot_model.proofs.Signs.{lex_cmp-same}
use Rattle.pivot_model.specs.Basis.{IsBasis, outside_row, side_at}
use Rattle.pivot_model.specs.Responses.{residual_for, response}
use Rattle.pivot_model.proofs.Among.{among_at, among_place}
use Rattle.pivot_model.proofs.Bounds.{is_basic}
use Rattle.pivot_model.proofs.Exchanged.{perturbed_is, residual_fit}
use Rattle.pivot_model.proofs.Sides.{side_basic, side_outside, fitted_for}
use Rattle.pivot_model.specs.PerturbedLoss.{perturbed_sum, perturbed_coefficient}
use Rattle.walk_model.proofs.Changes.{coefficient_for}
use Rattle.walk_model.proofs.Exchanges.{outside_from}
use Rattle.walk_model.proofs.Improved.{price, priced, sum_is, coefficient_is}

-- two bases with the same rows
module _ (p : Sample) (at next : ℕ → ℕ) (a b : ℕ → ℕ → ℚ) (basis : IsBasis p at a) (after : IsBasis p next b) (same : (i : ℕ) → is_among next p.columns i ≡ is_among at p.columns i) where
  coefficients_same : (v : ℕ → ℚ) (k : ℕ) → k < p.columns → coefficient_for p next b v k ≡ coefficient_for p at a v k
  coefficients_same v k lk =
      ring_by_ℚ (coefficient_for p next b v k ∷ coefficient_for p at a v k ∷ []) v0 v1 (number (pos 1)) (v0 ⊟ v1) (number (pos 0)) refl
      (kernel-zero p.columns (λ j k. p.x (at j) k) a basis.inverse (λ k. coefficient_for p next b v k -ℚ coefficient_for p at a v k) gone k lk)
    where
      gone : (j : ℕ) → j < p.columns → sum_ℚ p.columns (λ k. p.x (at j) k *ℚ (coefficient_for p next b v k -ℚ coefficient_for p at a v k)) ≡ whole (pos 0)
      gone j lj =
          let place : (l : ℕ) × (l < p.columns) × (next l ≡ at j) = among_place next p.columns (at j) (same (at j) ∙ among_at at p.columns j lj) in
          sum_ℚ-same p.columns (λ k. p.x (at j) k *ℚ (coefficient_for p next b v k -ℚ coefficient_for p at a v k))
          (λ k. (whole (pos 1) *ℚ (p.x (at j) k *ℚ coefficient_for p next b v k)) +ℚ (neg_ℚ (whole (pos 1)) *ℚ (p.x (at j) k *ℚ coefficient_for p at a v k)))
          (λ k lk. ring_ℚ (p.x (at j) k ∷ coefficient_for p next b v k ∷ coefficient_for p at a v k ∷ []) (v0 ⊠ (v1 ⊟ v2)) (number (pos 1) ⊠ (v0 ⊠ v1) ⊞ negated (number (pos 1)) ⊠ (v0 ⊠ v2)) refl)
          ∙ sum_ℚ-mix p.columns (whole (pos 1)) (neg_ℚ (whole (pos 1))) (λ k. p.x (at j) k *ℚ coefficient_for p next b v k) (λ k. p.x (at j) k *ℚ coefficient_for p at a v k)
          ∙ ap₂ (λ y z. (whole (pos 1) *ℚ y) +ℚ (neg_ℚ (whole (pos 1)) *ℚ z))
          (subst (λ i. sum_ℚ p.columns (λ k. p.x i k *ℚ coefficient_for p next b v k) ≡ v i) place.2 (fitted_for p next b after v place.0 place.1)) (fitted_for p at a basis v j lj)
          ∙ ring_ℚ (v (at j) ∷ []) (number (pos 1) ⊠ v0 ⊞ negated (number (pos 1)) ⊠ v0) (number (pos 0)) refl

  residuals_same : (v : ℕ → ℚ) (i : ℕ) → residual_for p next b v i ≡ residual_for p at a v i
  residuals_same v i =
      residual_fit p next b v i
      ∙ ap (λ z. v i -ℚ z) (sum_ℚ-same p.columns (λ k. p.x i k *ℚ coefficient_for p next b v k) (λ k. p.x i k *ℚ coefficient_for p at a v k) (λ k lk. ap (λ z. p.x i k *ℚ z) (coefficients_same v k lk)))
      ∙ sym (residual_fit p at a v i)

  sides_same : (i : ℕ) → side_at p next b i ≡ side_at p at a i
  sides_same i = by (is_basic p at a i) refl
    where
      by : (t : Bool) → is_basic p at a i ≡ t → side_at p next b i ≡ side_at p at a i
      by true e = side_basic p next b i (same i ∙ e) ∙ sym (side_basic p at a i e)
      by false e =
          side_outside p next b i (same i ∙ e)
          ∙ ap side_of (lex_cmp-same (suc p.rows) (perturbed p.columns next (outside_row p next b i)) (perturbed p.columns at (outside_row p at a i)) zeros
          (λ m. perturbed_is p next b i (outside_from p next b after i (same i ∙ e)) m ∙ residuals_same (response p m) i ∙ sym (perturbed_is p at a i (outside_from p at a basis i e) m)))
          ∙ sym (side_outside p at a i e)

  pub sum_same : (up down : ℕ → ℚ) (m : ℕ) → perturbed_sum p next b up down m ≡ perturbed_sum p at a up down m
  sum_same up down m =
      sum_is p next b after up down m
      ∙ sum_ℚ-same p.rows (λ i. priced p next b after up down i *ℚ residual_for p next b (response p m) i) (λ i. priced p at a basis up down i *ℚ residual_for p at a (response p m) i)
      (λ i li. ap₂ (λ s x. price p next b after up down i s *ℚ x) (sides_same i) (residuals_same (response p m) i) ∙ ap (λ z. z *ℚ residual_for p at a (response p m) i) (prices i (side_at p at a i)))
      ∙ sym (sum_is p at a basis up down m)
    where
      prices : (i : ℕ) (s : Side) → price p next b after up down i s ≡ price p at a basis up down i s
      prices i Up = refl
      prices i Down = refl
      prices i Basic = refl

  pub coefficient_same : (c : ℕ) → c < p.columns → (m : ℕ) → perturbed_coefficient p next b c m ≡ perturbed_coefficient p at a c m
  coefficient_same c lc m = coefficient_is p c lc next b after m ∙ coefficients_same (response p m) c lc ∙ sym (coefficient_is p c lc at a basis m)
