-- The rows outside a basis after an exchange: each perturbed residual has gained a multiple of the
-- perturbed ratio of the row that enters.
use Rattle.std.specs.Prelude.{◌≡◌, ◌≢◌, ℕ, ◌<◌, Bool, true, false, ◌==◌, if◌then◌else◌, [], ◌∷◌, pos}
use Rattle.std.proofs.Common.{refl, sym, ap, ap₂, ◌∙◌}
use Rattle.rational_laws.specs.Solver.{number, ◌⊟◌, ◌⊠◌, v0, v1}
use Rattle.rational_laws.specs.Rational.{ℚ, ◌-ℚ◌, ◌*ℚ◌, inverse, whole}
use Rattle.rational_laws.proofs.RationalLaws.{ring_ℚ}
use Rattle.rational_laws.proofs.RationalSumLaws.{sum_ℚ-same}
use Rattle.rational_laws.specs.Terms.{delta}
use Rattle.rational_laws.proofs.TermLaws.{sum_ℚ-delta, delta-turned}
use Rattle.rational_laws.specs.Matrices.{AreInverse}
use Rattle.rational_laws.proofs.MatrixLaws.{AreInverse-same, inverse-unique}
use Rattle.rational_laws.specs.Exchange.{exchanged, with_row}
use Rattle.rational_laws.proofs.ExchangeLaws.{exchange-inverse}
use Rattle.loss_model.specs.Sample.{Sample}
use Rattle.pivot_model.specs.Perturbed.{IsOutside}
use Rattle.pivot_model.specs.Basis.{IsBasis, coord}
use Rattle.pivot_model.specs.Responses.{residual_for, exchanged_rows}
use Rattle.pivot_model.proofs.Among.{among_at, among_place}
use Rattle.pivot_model.proofs.Bounds.{is_basic}
use Rattle.pivot_model.proofs.Exchanged.{residual_after}
use Rattle.pivot_model.proofs.Passing.{no}
use Rattle.walk_model.specs.Walks.{AreExchanged}

-- ---- residuals for any responses

module _ (p : Sample) (at next : ℕ → ℕ) (a b : ℕ → ℕ → ℚ) (j r : ℕ) (basis : IsBasis p at a) (after : IsBasis p next b) (ex : AreExchanged p.columns at next j r) (lj : j < p.columns) (some : coord p a r j ≢ whole (pos 0)) where
  abbrev pub made : ℕ → ℕ → ℚ
  made = exchanged p.columns a j (p.x r)

  pub next_inverse : AreInverse p.columns (λ k l. p.x (next k) l) made
  next_inverse =
      AreInverse-same p.columns (with_row (λ k l. p.x (at k) l) j (p.x r)) (λ k l. p.x (next k) l) made made
      (exchange-inverse p.columns (λ k l. p.x (at k) l) a j (p.x r) basis.inverse lj some)
      (λ k l lk ll. ap (λ i. p.x i l) (ex k lk) ∙ by k l (k == j)) (λ k l lk ll. refl)
    where
      by : (k l : ℕ) (t : Bool) → p.x (if t then r else at k) l ≡ (if t then p.x r l else p.x (at k) l)
      by k l true = refl
      by k l false = refl

  coord_next : (i k : ℕ) → k < p.columns → coord p b i k ≡ coord p made i k
  coord_next i k lk =
      sum_ℚ-same p.columns (λ l. p.x i l *ℚ b l k) (λ l. p.x i l *ℚ made l k)
      (λ l ll. ap (λ z. p.x i l *ℚ z) (inverse-unique p.columns (λ k l. p.x (next k) l) b made after.inverse next_inverse l k ll lk))

  pub residual_next : (v : ℕ → ℚ) (i : ℕ) → residual_for p next b v i ≡ residual_for p at a v i -ℚ ((coord p a i j *ℚ inverse (coord p a r j)) *ℚ residual_for p at a v r)
  residual_next v i =
      ap (λ z. v i -ℚ z) (sum_ℚ-same p.columns (λ k. coord p b i k *ℚ v (next k)) (λ k. coord p made i k *ℚ v (exchanged_rows at j r k))
      (λ k lk. ap₂ (λ x y. x *ℚ y) (coord_next i k lk) (ap v (ex k lk))))
      ∙ residual_after p at a j r lj some v i

-- ---- rows of a basis

module _ (p : Sample) (at : ℕ → ℕ) (a : ℕ → ℕ → ℚ) (basis : IsBasis p at a) where
  pub coord_own : (j k : ℕ) → j < p.columns → k < p.columns → coord p a (at j) k ≡ delta j k
  coord_own j k lj lk = basis.inverse.left j k lj lk

  pub residual_own : (v : ℕ → ℚ) (j : ℕ) → j < p.columns → residual_for p at a v (at j) ≡ whole (pos 0)
  residual_own v j lj =
      ap (λ z. v (at j) -ℚ z) (
      sum_ℚ-same p.columns (λ k. coord p a (at j) k *ℚ v (at k)) (λ k. v (at k) *ℚ delta k j)
      (λ k lk. ap (λ z. z *ℚ v (at k)) (coord_own j k lj lk ∙ delta-turned j k) ∙ ring_ℚ (delta k j ∷ v (at k) ∷ []) (v0 ⊠ v1) (v1 ⊠ v0) refl)
      ∙ sum_ℚ-delta p.columns (λ k. v (at k)) j lj)
      ∙ ring_ℚ (v (at j) ∷ []) (v0 ⊟ v0) (number (pos 0)) refl

  pub outside_from : (i : ℕ) → is_basic p at a i ≡ false → IsOutside p.columns at i
  outside_from i h =
      record {
        apart = basis.distinct.apart;
        outside = λ k lk e. no (sym (among_at at p.columns k lk) ∙ ap (is_basic p at a) e ∙ h);
      }

  pub outside_test : (i : ℕ) → IsOutside p.columns at i → is_basic p at a i ≡ false
  outside_test i out = by (is_basic p at a i) refl
    where
      by : (t : Bool) → is_basic p at a i ≡ t → is_basic p at a i ≡ false
      by true e = let place : (j : ℕ) × (j < p.columns) × (at j ≡ i) = among_place at p.columns i e in absurd (out.outside place.0 place.1 place.2)
      by false e = e
