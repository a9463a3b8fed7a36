-- How residuals change in an exchange, for any responses.
use Rattle.std.specs.Prelude.{◌≡◌, ◌≢◌, ℕ, zero, suc, ◌<◌, Bool, true, false, ◌==◌, if◌then◌else◌, [], ◌∷◌, pos}
use Rattle.std.proofs.Common.{arith, refl, sym, ap, ◌∙◌}
use borrow.Author.Tests.{eqb-true, eqb-false}
use Rattle.rational_laws.specs.Solver.{var, number, negated, ◌⊞◌, ◌⊟◌, ◌⊠◌, v0, v1, v2, v3, v4, v5}
use Rattle.rational_laws.specs.Rational.{ℚ, ◌+ℚ◌, ◌-ℚ◌, ◌*ℚ◌, neg_ℚ, inverse, whole}
use Rattle.rational_laws.proofs.RationalLaws.{ring_ℚ, ring_by_ℚ, *ℚ-inverse}
use Rattle.rational_laws.specs.RationalSums.{sum_ℚ}
use Rattle.rational_laws.proofs.RationalSumLaws.{sum_ℚ-same, sum_ℚ-zero, sum_ℚ-scale, sum_ℚ-swap, sum_ℚ-mix}
use Rattle.rational_laws.specs.Terms.{delta}
use Rattle.rational_laws.proofs.TermLaws.{if-same, if-other, sum_ℚ-replaced}
use Rattle.rational_laws.specs.Matrices.{coordinate}
use Rattle.rational_laws.specs.Exchange.{exchanged}
use Rattle.rational_laws.proofs.ExchangeLaws.{coordinate-exchanged}
use Rattle.loss_model.specs.Sample.{Sample}
use Rattle.basis_model.specs.Perturbed.{IsOutside, perturbed, held_coordinate}
use Rattle.basis_model.proofs.PerturbedLaws.{perturbed-own, perturbed-other, held_coordinate-none}
use Rattle.basis_model.specs.Basis.{coord, outside_row}
use Rattle.pivot_model.specs.Responses.{residual_for, response, exchanged_rows}

module _ (p : Sample) (at : ℕ → ℕ) (a : ℕ → ℕ → ℚ) (j r : ℕ) (lj : j < p.columns) (some : coord p a r j ≢ whole (pos 0)) (v : ℕ → ℚ) (i : ℕ) where
  ci : ℚ
  ci = coord p a i j

  q : ℚ
  q = inverse (coord p a r j)

  f : ℕ → ℚ
  f k = (coord p a i k -ℚ (coord p a r k *ℚ (ci *ℚ q))) *ℚ v (at k)

  si : ℚ
  si = sum_ℚ p.columns (λ k. coord p a i k *ℚ v (at k))

  sr : ℚ
  sr = sum_ℚ p.columns (λ k. coord p a r k *ℚ v (at k))

  total : sum_ℚ p.columns f ≡ si +ℚ (neg_ℚ (ci *ℚ q) *ℚ sr)
  unfolding si sr f
  total =
      sum_ℚ-same p.columns f (λ k. (whole (pos 1) *ℚ (coord p a i k *ℚ v (at k))) +ℚ (neg_ℚ (ci *ℚ q) *ℚ (coord p a r k *ℚ v (at k))))
      (λ k lk. ring_ℚ (coord p a i k ∷ ci ∷ coord p a r k ∷ q ∷ v (at k) ∷ []) ((v0 ⊟ v2 ⊠ (v1 ⊠ v3)) ⊠ v4) (number (pos 1) ⊠ (v0 ⊠ v4) ⊞ negated (v1 ⊠ v3) ⊠ (v2 ⊠ v4)) refl)
      ∙ sum_ℚ-mix p.columns (whole (pos 1)) (neg_ℚ (ci *ℚ q)) (λ k. coord p a i k *ℚ v (at k)) (λ k. coord p a r k *ℚ v (at k))
      ∙ ring_ℚ (si ∷ ci ∷ q ∷ sr ∷ []) (number (pos 1) ⊠ v0 ⊞ negated (v1 ⊠ v2) ⊠ v3) (v0 ⊞ negated (v1 ⊠ v2) ⊠ v3) refl

  by : (k : ℕ) (t : Bool) → (if t then ci *ℚ q else coord p a i k -ℚ (coord p a r k *ℚ (ci *ℚ q))) *ℚ v (if t then r else at k) ≡ (if t then (ci *ℚ q) *ℚ v r else f k)
  unfolding f
  by k true = refl
  by k false = refl

  -- every residual changes by a multiple of that of the row that enters
  pub residual_after : residual_for p (exchanged_rows at j r) (exchanged p.columns a j (p.x r)) v i ≡ residual_for p at a v i -ℚ ((coord p a i j *ℚ inverse (coord p a r j)) *ℚ residual_for p at a v r)
  unfolding ci q si sr f
  residual_after =
      ap (λ z. v i -ℚ z) (
      sum_ℚ-same p.columns (λ k. coordinate p.columns (exchanged p.columns a j (p.x r)) (p.x i) k *ℚ v (exchanged_rows at j r k)) (λ k. if k == j then (ci *ℚ q) *ℚ v r else f k)
      (λ k lk. ap (λ z. z *ℚ v (exchanged_rows at j r k)) (coordinate-exchanged p.columns a j (p.x r) (p.x i) k) ∙ by k (k == j))
      ∙ sum_ℚ-replaced p.columns j f (λ k. (ci *ℚ q) *ℚ v r) lj
      ∙ ap (λ z. (z -ℚ f j) +ℚ ((ci *ℚ q) *ℚ v r)) total)
      ∙ ring_by_ℚ (v i ∷ si ∷ ci ∷ q ∷ sr ∷ v r ∷ coord p a r j ∷ v (at j) ∷ [])
      (v0 ⊟ (((v1 ⊞ negated (v2 ⊠ v3) ⊠ v4) ⊟ ((v2 ⊟ var 6 ⊠ (v2 ⊠ v3)) ⊠ var 7)) ⊞ (v2 ⊠ v3) ⊠ v5))
      ((v0 ⊟ v1) ⊟ (v2 ⊠ v3) ⊠ (v5 ⊟ v4)) (negated (v2 ⊠ var 7)) (var 6 ⊠ v3) (number (pos 1)) refl (*ℚ-inverse (coord p a r j) some)

-- the coordinate held by row m, as a sum over the positions
pub held_sum : (n : ℕ) (at : ℕ → ℕ) (c : ℕ → ℚ) (m : ℕ) → ((j k : ℕ) → j < k → k < n → at j ≢ at k) → held_coordinate n at c m ≡ sum_ℚ n (λ j. c j *ℚ delta m (at j))
held_sum zero at c m apart = refl
held_sum (suc n) at c m apart = here (m == at n) refl (held_sum n at c m (λ j k l lk. apart j k l (omega arith)))
  where
    alone : m ≡ at n → sum_ℚ n (λ j. c j *ℚ delta m (at j)) ≡ whole (pos 0)
    alone e =
        sum_ℚ-same n (λ j. c j *ℚ delta m (at j)) (λ j. whole (pos 0)) (λ j lj. ap (λ z. c j *ℚ z) (if-other m (at j) (whole (pos 1)) (whole (pos 0)) (λ s. apart j n lj (omega arith) (sym s ∙ e)))
        ∙ ring_ℚ (c j ∷ []) (v0 ⊠ number (pos 0)) (number (pos 0)) refl)
        ∙ sum_ℚ-zero n

    here : (t : Bool) → (m == at n) ≡ t → held_coordinate n at c m ≡ sum_ℚ n (λ j. c j *ℚ delta m (at j)) → (if m == at n then c n else held_coordinate n at c m) ≡ sum_ℚ n (λ j. c j *ℚ delta m (at j)) +ℚ (c n *ℚ delta m (at n))
    here true e ih =
        let same : m ≡ at n = eqb-true m (at n) e in
        if-same m (at n) (c n) (held_coordinate n at c m) same
        ∙ ring_ℚ (c n ∷ []) v0 (number (pos 0) ⊞ v0 ⊠ number (pos 1)) refl
        ∙ ap (λ z. z +ℚ (c n *ℚ whole (pos 1))) (sym (alone same))
        ∙ ap (λ z. sum_ℚ n (λ j. c j *ℚ delta m (at j)) +ℚ (c n *ℚ z)) (sym (if-same m (at n) (whole (pos 1)) (whole (pos 0)) same))
    here false e ih =
        let other : m ≢ at n = eqb-false m (at n) e in
        if-other m (at n) (c n) (held_coordinate n at c m) other ∙ ih
        ∙ ring_ℚ (sum_ℚ n (λ j. c j *ℚ delta m (at j)) ∷ c n ∷ []) v0 (v0 ⊞ v1 ⊠ number (pos 0)) refl
        ∙ ap (λ z. sum_ℚ n (λ j. c j *ℚ delta m (at j)) +ℚ (c n *ℚ z)) (sym (if-other m (at n) (whole (pos 1)) (whole (pos 0)) other))

-- a residual is the response less its fit by the coefficients
pub residual_fit : (p : Sample) (at : ℕ → ℕ) (a : ℕ → ℕ → ℚ) (v : ℕ → ℚ) (i : ℕ) → residual_for p at a v i ≡ v i -ℚ sum_ℚ p.columns (λ k. p.x i k *ℚ sum_ℚ p.columns (λ j. a k j *ℚ v (at j)))
residual_fit p at a v i =
    ap (λ z. v i -ℚ z) (sym (
    sum_ℚ-same p.columns (λ k. p.x i k *ℚ sum_ℚ p.columns (λ j. a k j *ℚ v (at j))) (λ k. sum_ℚ p.columns (λ j. v (at j) *ℚ (p.x i k *ℚ a k j)))
    (λ k lk. sym (sum_ℚ-scale p.columns (p.x i k) (λ j. a k j *ℚ v (at j))) ∙ sum_ℚ-same p.columns (λ j. p.x i k *ℚ (a k j *ℚ v (at j))) (λ j. v (at j) *ℚ (p.x i k *ℚ a k j))
    (λ j lj. ring_ℚ (p.x i k ∷ a k j ∷ v (at j) ∷ []) (v0 ⊠ (v1 ⊠ v2)) (v2 ⊠ (v0 ⊠ v1)) refl))
    ∙ sum_ℚ-swap p.columns p.columns (λ k j. v (at j) *ℚ (p.x i k *ℚ a k j))
    ∙ sum_ℚ-same p.columns (λ j. sum_ℚ p.columns (λ k. v (at j) *ℚ (p.x i k *ℚ a k j))) (λ j. coord p a i j *ℚ v (at j)) (λ j lj. sum_ℚ-scale p.columns (v (at j)) (λ k. p.x i k *ℚ a k j)
    ∙ ring_ℚ (v (at j) ∷ coord p a i j ∷ []) (v0 ⊠ v1) (v1 ⊠ v0) refl)))

module _ (p : Sample) (at : ℕ → ℕ) (a : ℕ → ℕ → ℚ) (i : ℕ) (out : IsOutside p.columns at i) where
  held_is : (m : ℕ) → held_coordinate p.columns at (coord p a i) m ≡ sum_ℚ p.columns (λ j. coord p a i j *ℚ delta m (at j))
  held_is m = held_sum p.columns at (coord p a i) m out.apart

  pub perturbed_is : (m : ℕ) → perturbed p.columns at (outside_row p at a i) m ≡ residual_for p at a (response p m) i
  perturbed_is zero = sym (residual_fit p at a p.y i)
  perturbed_is (suc m) = by (m == i) refl
    where
      by : (t : Bool) → (m == i) ≡ t → perturbed p.columns at (outside_row p at a i) (suc m) ≡ delta m i -ℚ sum_ℚ p.columns (λ j. coord p a i j *ℚ delta m (at j))
      by true e =
          let same : m ≡ i = eqb-true m i e in
          perturbed-own p.columns at (outside_row p at a i) m same
          ∙ ring_ℚ [] (number (pos 1)) (number (pos 1) ⊟ number (pos 0)) refl
          ∙ ap (λ z. z -ℚ whole (pos 0)) (sym (if-same m i (whole (pos 1)) (whole (pos 0)) same))
          ∙ ap (λ z. delta m i -ℚ z) (sym (held_coordinate-none p.columns at (coord p a i) m (λ j lj s. absurd (out.outside j lj (s ∙ same)))) ∙ held_is m)
      by false e =
          let other : m ≢ i = eqb-false m i e in
          perturbed-other p.columns at (outside_row p at a i) m other
          ∙ ring_ℚ (held_coordinate p.columns at (coord p a i) m ∷ []) (negated v0) (number (pos 0) ⊟ v0) refl
          ∙ ap (λ z. z -ℚ held_coordinate p.columns at (coord p a i) m) (sym (if-other m i (whole (pos 1)) (whole (pos 0)) other))
          ∙ ap (λ z. delta m i -ℚ z) (held_is m)
