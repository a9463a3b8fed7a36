-- What a walking step keeps: every dual value, and that the basis is optimal.
use Rattle.std.specs.Prelude.{◌≡◌, ◌≢◌, ℕ, ◌<◌, Bool, true, false, ◌==◌, [], ◌∷◌, pos, negsuc}
use Rattle.std.proofs.Common.{refl, sym, ap, subst, ◌∙◌}
use borrow.Author.Tests.{eqb-true, eqb-false}
use Rattle.rational_laws.specs.Solver.{number, negated, ◌⊞◌, ◌⊟◌, v0, v1}
use Rattle.rational_laws.specs.Rational.{ℚ, ◌+ℚ◌, ◌-ℚ◌, neg_ℚ, whole, ◌≤ℚ◌}
use Rattle.rational_laws.proofs.RationalLaws.{ring_ℚ, ring_by_ℚ, ≤ℚ_refl}
use Rattle.rational_laws.proofs.OrderLaws.{≤ℚ-minus}
use Rattle.loss_model.specs.declared.vertex.Side.{Side}
use Rattle.loss_model.specs.declared.vertex.Side.TheVariants.{Up, Down, Basic}
use Rattle.loss_model.specs.Sample.{Sample, up_cost, down_cost, residual}
use Rattle.loss_model.specs.Complements.{IsComplementary}
use Rattle.loss_model.specs.Vertex.{value_of_side, IsOn}
use Rattle.pivot_model.specs.declared.direction.Direction.{Direction}
use Rattle.pivot_model.specs.declared.direction.Direction.TheVariants.{Upward, Downward}
use Rattle.pivot_model.specs.Basis.{IsBasis, coefficient, side_at}
use Rattle.pivot_model.specs.Duals.{HasCosts, ◌<ℚ◌}
use Rattle.pivot_model.proofs.Among.{among_at}
use Rattle.pivot_model.proofs.Bounds.{is_basic, bound}
use Rattle.pivot_model.proofs.Sides.{on_side}
use Rattle.pivot_model.proofs.Passing.{no}
use Rattle.pivot_model.proofs.Weighed.{IsWithin, between, within}
use Rattle.walk_model.specs.Families.{Family, theta_of, IsFeasibleIn, basic_at, dual_in, slope_in, IsOptimalIn}
use Rattle.walk_model.specs.Walks.{IsFirstMover, side_towards, AreExchanged}
use Rattle.walk_model.proofs.Balanced.{held, dual_at, dual_outside, balanced, only}
use Rattle.walk_model.proofs.Joint.{next_same, stays_in, sides_stay, side_left}

-- ---- feasible and complementary

module _ (f : Family) (at : ℕ → ℕ) (a : ℕ → ℕ → ℚ) (basis : IsBasis f.sample at a) (t : ℚ) where
  abbrev p : Sample
  p = f.sample

  abbrev th : ℚ
  th = theta_of f t

  pub feasible : HasCosts p th → IsOptimalIn f at a t → IsFeasibleIn f t (dual_in f at a t)
  feasible costs stop =
      record { lower = λ i li. (all_within i li).0; upper = λ i li. (all_within i li).1; balanced = balanced f at a basis t }
    where
      all_within : (i : ℕ) → i < p.rows → IsWithin p at a basis th i (dual_in f at a t i)
      all_within =
          within p at a basis th (basic_at f at a t) costs
          (λ j lj. between p at a basis th (at j) (basic_at f at a t j) (stop j Upward lj) (stop j Downward lj))

  pub complementary : IsComplementary p th (residual p (coefficient p at a)) (dual_in f at a t)
  complementary =
      record {
        above = λ i li h. rise i h (side_at p at a i) refl (on_side p at a basis i);
        below = λ i li h. drop i h (side_at p at a i) refl (on_side p at a basis i);
      }
    where
      value : (i : ℕ) (s : Side) → side_at p at a i ≡ s → dual_in f at a t i ≡ value_of_side p th (held f at a basis t) i s
      value i s e = ap (value_of_side p th (held f at a basis t) i) e

      rise : (i : ℕ) → whole (pos 0) <ℚ residual p (coefficient p at a) i → (s : Side) → side_at p at a i ≡ s → IsOn s (residual p (coefficient p at a) i) → dual_in f at a t i ≡ up_cost p th i
      rise i h Up e on = value i Up e
      rise i h Down e on = absurd (h on)
      rise i h Basic e on = absurd (h (subst (λ z. z ≤ℚ whole (pos 0)) (sym on) (≤ℚ_refl (whole (pos 0)))))

      drop : (i : ℕ) → residual p (coefficient p at a) i <ℚ whole (pos 0) → (s : Side) → side_at p at a i ≡ s → IsOn s (residual p (coefficient p at a) i) → dual_in f at a t i ≡ neg_ℚ (down_cost p th i)
      drop i h Up e on = absurd (h on)
      drop i h Down e on = value i Down e
      drop i h Basic e on = absurd (h (subst (λ z. whole (pos 0) ≤ℚ z) (sym on) (≤ℚ_refl (whole (pos 0)))))

-- slopes that are not negative, from values within the bounds
optimal_from : (f : Family) (at : ℕ → ℕ) (a : ℕ → ℕ → ℚ) (basis : IsBasis f.sample at a) (t : ℚ) (e : ℕ → ℚ) → IsFeasibleIn f t e
    → ((i : ℕ) → i < f.sample.rows → dual_in f at a t i ≡ e i) → IsOptimalIn f at a t
optimal_from f at a basis t e feasible same j d lj = by d
  where
    li : at j < f.sample.rows
    li = basis.distinct.within j lj

    own : e (at j) ≡ basic_at f at a t j
    own = sym (same (at j) li) ∙ dual_at f at a basis t j lj

    by : (d : Direction) → whole (pos 0) ≤ℚ slope_in f at a t j d
    by Upward = subst (λ z. whole (pos 0) ≤ℚ (up_cost f.sample (theta_of f t) (at j) -ℚ z)) own ((≤ℚ-minus (e (at j)) (up_cost f.sample (theta_of f t) (at j))).0 (feasible.upper (at j) li))
    by Downward =
        subst (λ z. whole (pos 0) ≤ℚ (down_cost f.sample (theta_of f t) (at j) +ℚ z)) own
        (subst (λ z. whole (pos 0) ≤ℚ z) (ring_ℚ (down_cost f.sample (theta_of f t) (at j) ∷ e (at j) ∷ []) (v1 ⊟ negated v0) (v0 ⊞ v1) refl)
        ((≤ℚ-minus (neg_ℚ (down_cost f.sample (theta_of f t) (at j))) (e (at j))).0 (feasible.lower (at j) li)))

-- ---- after a step

module _ (f : Family) (at next : ℕ → ℕ) (a b : ℕ → ℕ → ℚ) (t : ℚ) (j r : ℕ) (d : Direction)
    (basis : IsBasis f.sample at a) (after : IsBasis f.sample next b) (ex : AreExchanged f.sample.columns at next j r)
    (lj : j < f.sample.columns) (first : IsFirstMover f.sample at a j d r) (meets : slope_in f at a t j d ≡ whole (pos 0)) where
  abbrev q : Sample
  q = f.sample

  abbrev tq : ℚ
  tq = theta_of f t

  -- the row that leaves stands at the bound to which it goes
  bound_left : (e : Direction) → slope_in f at a t j e ≡ whole (pos 0) → basic_at f at a t j ≡ value_of_side q tq (λ i. whole (pos 0)) (at j) (side_towards e)
  bound_left Upward h = ring_by_ℚ (basic_at f at a t j ∷ up_cost q tq (at j) ∷ []) v0 v1 (number (negsuc 0)) (v1 ⊟ v0) (number (pos 0)) refl h
  bound_left Downward h = ring_by_ℚ (basic_at f at a t j ∷ down_cost q tq (at j) ∷ []) v0 (negated v1) (number (pos 1)) (v1 ⊞ v0) (number (pos 0)) refl h

  sides : (i : ℕ) → i < q.rows → is_basic q next b i ≡ false → dual_in f at a t i ≡ bound q next b tq i
  sides i li out = by (i == at j) refl
    where
      apart : i ≢ r
      apart e = no (sym (ap (is_basic q next b) (e ∙ sym (next_same q at a basis j d r first next b after ex lj)) ∙ among_at next q.columns j lj) ∙ out)

      by : (s : Bool) → (i == at j) ≡ s → dual_in f at a t i ≡ bound q next b tq i
      by true e =
          let here : i ≡ at j = eqb-true i (at j) e in
          ap (dual_in f at a t) here ∙ dual_at f at a basis t j lj ∙ bound_left d meets
          ∙ ap (value_of_side q tq (λ i. whole (pos 0)) (at j)) (sym (side_left q at a basis j d r first next b after ex lj))
          ∙ ap (bound q next b tq) (sym here)
      by false e =
          let other : i ≢ at j = eqb-false i (at j) e in
          dual_outside f at a basis t i (outside (is_basic q at a i) refl other)
          ∙ ap (value_of_side q tq (λ i. whole (pos 0)) i) (sym (sides_stay q at a basis j d r first next b after ex lj i li apart other))
        where
          outside : (s : Bool) → is_basic q at a i ≡ s → i ≢ at j → is_basic q at a i ≡ false
          outside true h other = absurd (no (sym (stays_in q at a basis j d r first next b after ex lj i h other) ∙ out))
          outside false h other = h

  pub duals_stay : (i : ℕ) → i < q.rows → dual_in f next b t i ≡ dual_in f at a t i
  duals_stay = only f next b after t (dual_in f at a t) (balanced f at a basis t) sides

  pub optimal_stays : HasCosts q tq → IsOptimalIn f at a t → IsOptimalIn f next b t
  optimal_stays costs stop = optimal_from f next b after t (dual_in f at a t) (feasible f at a basis t costs stop) duals_stay

  pub both_complement : IsComplementary q tq (residual q (coefficient q at a)) (dual_in f at a t) × IsComplementary q tq (residual q (coefficient q next b)) (dual_in f at a t)
  both_complement =
      let own : IsComplementary q tq (residual q (coefficient q next b)) (dual_in f next b t) = complementary f next b after t in (
        complementary f at a basis t,
        record {
          above = λ i li h. sym (duals_stay i li) ∙ own.above i li h;
          below = λ i li h. sym (duals_stay i li) ∙ own.below i li h;
        },
      )
