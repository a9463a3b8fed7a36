-- What stands after an exchange is a basis, with the inverse of the exchange.
use Rattle.std.specs.Prelude.{◌≡◌, ◌≢◌, ◌⊎◌, ℕ, ◌<◌, ◌≤◌, Bool, true, false, ◌==◌, if◌then◌else◌, [], ◌∷◌, pos}
use Rattle.std.proofs.Common.{arith, refl, sym, ap, ap₂, subst, ◌∙◌, inl, inr}
use Rattle.std.proofs.lemmas.Bool.{cases_lt}
use borrow.Author.Tests.{eqb-true, eqb-false}
use Rattle.rational_laws.specs.Solver.{number, ◌⊟◌, ◌⊠◌, v0, v1}
use Rattle.rational_laws.specs.Rational.{ℚ, ◌-ℚ◌, ◌*ℚ◌, inverse, whole}
use Rattle.rational_laws.proofs.RationalLaws.{ring_ℚ}
use Rattle.rational_laws.proofs.RationalSumLaws.{sum_ℚ-same, sum_ℚ-zero}
use Rattle.rational_laws.proofs.TermLaws.{if-same, if-other}
use Rattle.rational_laws.proofs.MatrixLaws.{AreInverse-same}
use Rattle.rational_laws.specs.Matrices.{coordinate}
use Rattle.rational_laws.specs.Selections.{AreDistinct}
use Rattle.rational_laws.specs.Exchange.{exchanged, with_row}
use Rattle.rational_laws.proofs.ExchangeLaws.{exchange-inverse}
use Rattle.loss_model.specs.Sample.{Sample}
use Rattle.pivot_model.specs.Perturbed.{IsOutside}
use Rattle.pivot_model.specs.declared.direction.Direction.{Direction}
use Rattle.pivot_model.specs.Basis.{IsBasis}
use Rattle.pivot_model.specs.Trails.{EndsAt}
use Rattle.pivot_model.proofs.Passing.{mover_some, is_outside}
use Rattle.pivot_model.specs.Steps.{moves}
use Rattle.walk_model.specs.Walks.{AreExchanged}

module _ (p : Sample) (at next : ℕ → ℕ) (a : ℕ → ℕ → ℚ) (j r : ℕ) (d : Direction) (basis : IsBasis p at a) (lj : j < p.columns)
    (lr : r < p.rows) (mover : moves p at a j d r ≡ true) (ex : AreExchanged p.columns at next j r) where
  out : IsOutside p.columns at r
  out = is_outside p at a j basis d r mover

  next_is : (k : ℕ) → k < p.columns → (t : Bool) → (k == j) ≡ t → ((t ≡ true) × (next k ≡ r)) ⊎ ((k ≢ j) × (next k ≡ at k))
  next_is k lk true e = inl (refl, ex k lk ∙ if-same k j r (at k) (eqb-true k j e))
  next_is k lk false e = let other : k ≢ j = eqb-false k j e in inr (other, ex k lk ∙ if-other k j r (at k) other)

  distinct : AreDistinct next p.columns p.rows
  distinct = record { within = λ k lk. inside k lk (next_is k lk (k == j) refl); apart = λ k l lt ll e. differ k l lt ll e (next_is k (omega arith) (k == j) refl) (next_is l ll (l == j) refl) }
    where
      inside : (k : ℕ) → k < p.columns → (((k == j) ≡ true) × (next k ≡ r)) ⊎ ((k ≢ j) × (next k ≡ at k)) → next k < p.rows
      inside k lk (inl h) = subst (λ i. i < p.rows) (sym h.1) lr
      inside k lk (inr h) = subst (λ i. i < p.rows) (sym h.1) (basis.distinct.within k lk)

      differ : (k l : ℕ) → k < l → l < p.columns → next k ≡ next l → (((k == j) ≡ true) × (next k ≡ r)) ⊎ ((k ≢ j) × (next k ≡ at k)) → (((l == j) ≡ true) × (next l ≡ r)) ⊎ ((l ≢ j) × (next l ≡ at l)) → ⊥
      differ k l lt ll e (inl x) (inl y) = let here : k ≡ j = eqb-true k j x.0 in let there : l ≡ j = eqb-true l j y.0 in omega arith
      differ k l lt ll e (inl x) (inr y) = out.outside l ll (sym y.1 ∙ sym e ∙ x.1)
      differ k l lt ll e (inr x) (inl y) = out.outside k (omega arith) (sym x.1 ∙ e ∙ y.1)
      differ k l lt ll e (inr x) (inr y) = basis.distinct.apart k l lt ll (sym x.1 ∙ e ∙ y.1)

  abbrev made : ℕ → ℕ → ℚ
  made = exchanged p.columns a j (p.x r)

  pub next_basis : IsBasis p next made
  next_basis =
      record {
        distinct = distinct;
        inverse = AreInverse-same p.columns (with_row (λ k l. p.x (at k) l) j (p.x r)) (λ k l. p.x (next k) l) made made
            (exchange-inverse p.columns (λ k l. p.x (at k) l) a j (p.x r) basis.inverse lj (mover_some p at a j d r mover))
            (λ k l lk ll. ap (λ i. p.x i l) (ex k lk) ∙ by k l (k == j)) (λ k l lk ll. refl);
      }
    where
      by : (k l : ℕ) (t : Bool) → p.x (if t then r else at k) l ≡ (if t then p.x r l else p.x (at k) l)
      by k l true = refl
      by k l false = refl

  -- the inverse stays 0 outside its columns and positions
  pub next_ends : EndsAt p.columns a → EndsAt p.columns made
  next_ends ends k l past = by (l == j) refl (cases_lt k p.columns)
    where
      q : ℚ
      q = inverse (coordinate p.columns a (p.x r) j)

      no_column : p.columns ≤ k → (m : ℕ) → a k m ≡ whole (pos 0)
      no_column h m = ends k m (λ both. omega (arith, both.0))

      no_position : p.columns ≤ l → coordinate p.columns a (p.x r) l ≡ whole (pos 0)
      no_position h =
          sum_ℚ-same p.columns (λ m. p.x r m *ℚ a m l) (λ m. whole (pos 0)) (λ m lm. ap (λ z. p.x r m *ℚ z) (ends m l (λ both. omega (arith, both.1))) ∙ ring_ℚ (p.x r m ∷ []) (v0 ⊠ number (pos 0)) (number (pos 0)) refl)
          ∙ sum_ℚ-zero p.columns

      by : (t : Bool) → (l == j) ≡ t → (k < p.columns) ⊎ (p.columns ≤ k) → (if t then a k j *ℚ q else a k l -ℚ (coordinate p.columns a (p.x r) l *ℚ (a k j *ℚ q))) ≡ whole (pos 0)
      by true e (inl lk) = let here : l ≡ j = eqb-true l j e in absurd (past (lk, omega arith))
      by true e (inr h) = ap (λ z. z *ℚ q) (no_column h j) ∙ ring_ℚ (q ∷ []) (number (pos 0) ⊠ v0) (number (pos 0)) refl
      by false e (inr h) =
          ap₂ (λ x y. x -ℚ (coordinate p.columns a (p.x r) l *ℚ (y *ℚ q))) (no_column h l) (no_column h j)
          ∙ ring_ℚ (coordinate p.columns a (p.x r) l ∷ q ∷ []) (number (pos 0) ⊟ v0 ⊠ (number (pos 0) ⊠ v1)) (number (pos 0)) refl
      by false e (inl lk) = here (cases_lt l p.columns)
        where
          here : (l < p.columns) ⊎ (p.columns ≤ l) → a k l -ℚ (coordinate p.columns a (p.x r) l *ℚ (a k j *ℚ q)) ≡ whole (pos 0)
          here (inl ll) = absurd (past (lk, ll))
          here (inr h) =
              ap₂ (λ x y. x -ℚ (y *ℚ (a k j *ℚ q))) (ends k l (λ both. omega (arith, both.1))) (no_position h)
              ∙ ring_ℚ (a k j ∷ q ∷ []) (number (pos 0) ⊟ number (pos 0) ⊠ (v0 ⊠ v1)) (number (pos 0)) refl
