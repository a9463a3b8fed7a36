-- At a basis there is one walking step, and so a process has one lawful trail.
use Rattle.std.specs.Prelude.{◌≡◌, ◌≢◌, ◌⊎◌, ℕ, ◌<◌, ◌≤◌, Bool, true, false, ◌==◌, [], ◌∷◌, pos}
use Rattle.std.proofs.Common.{arith, refl, sym, ap₂, subst, ◌∙◌, inl, inr}
use Rattle.std.proofs.lemmas.Bool.{cases_lt}
use borrow.Author.Tests.{eqb-true, eqb-false}
use Rattle.rational_laws.specs.Solver.{number, ◌⊞◌, ◌⊟◌, v0, v1, v2}
use Rattle.rational_laws.specs.Rational.{ℚ, ◌+ℚ◌, whole, ◌≤ℚ◌}
use Rattle.rational_laws.proofs.RationalLaws.{ring_ℚ, ≤ℚ_refl, ≤ℚ_antisym}
use Rattle.loss_model.specs.Sample.{Sample, up_cost, down_cost}
use Rattle.pivot_model.specs.declared.direction.Direction.{Direction}
use Rattle.pivot_model.specs.declared.direction.Direction.TheVariants.{Upward, Downward}
use Rattle.pivot_model.specs.Basis.{IsBasis}
use Rattle.pivot_model.specs.Duals.{HasCosts}
use Rattle.pivot_model.specs.Trails.{EndsAt}
use Rattle.pivot_model.proofs.Passing.{before_trans, not_before_itself, no}
use Rattle.pivot_model.proofs.Unique.{same_inverse}
use Rattle.walk_model.specs.Families.{Family, theta_of, basic_at, slope_in}
use Rattle.walk_model.specs.Walks.{IsFirstMover, Crosses, IsNextBreak, IsWalkingStep}

module _ (f : Family) (at : ℕ → ℕ) (a : ℕ → ℕ → ℚ) (from : ℚ) where
  pub same_place : (t u : ℚ) (j k : ℕ) (d e : Direction) → IsNextBreak f at a from t j d → IsNextBreak f at a from u k e → t ≡ u
  same_place t u j k d e x y = ≤ℚ_antisym t u (x.least u k e y.position y.after y.crosses) (y.least t j d x.position x.after x.crosses)

  pub same_position : (t : ℚ) (j k : ℕ) (d e : Direction) → IsNextBreak f at a from t j d → IsNextBreak f at a from t k e → j ≡ k
  same_position t j k d e x y = by (cases_lt j k) (cases_lt k j)
    where
      by : (j < k) ⊎ (k ≤ j) → (k < j) ⊎ (j ≤ k) → j ≡ k
      by (inl less) o = absurd (y.first j d less x.crosses)
      by (inr past) (inl less) = absurd (x.first k e less y.crosses)
      by (inr past) (inr rest) = omega arith

  -- a dual value is not at both bounds, as the costs are not both 0
  one_bound : (t : ℚ) (j : ℕ) → HasCosts f.sample (theta_of f t) → at j < f.sample.rows → slope_in f at a t j Upward ≡ whole (pos 0) → slope_in f at a t j Downward ≡ whole (pos 0) → ⊥
  one_bound t j costs lj up down =
      costs.some (at j) lj
      (subst (λ z. z ≤ℚ whole (pos 0)) (sym (
      ring_ℚ (up_cost f.sample (theta_of f t) (at j) ∷ down_cost f.sample (theta_of f t) (at j) ∷ basic_at f at a t j ∷ []) (v0 ⊞ v1) ((v0 ⊟ v2) ⊞ (v1 ⊞ v2)) refl
      ∙ ap₂ (λ y z. y +ℚ z) up down ∙ ring_ℚ [] (number (pos 0) ⊞ number (pos 0)) (number (pos 0)) refl)) (≤ℚ_refl (whole (pos 0))))

  same_direction : (t : ℚ) (j : ℕ) (d e : Direction) → HasCosts f.sample (theta_of f t) → at j < f.sample.rows → Crosses f at a t j d → Crosses f at a t j e → d ≡ e
  same_direction t j Upward Upward costs lj x y = refl
  same_direction t j Downward Downward costs lj x y = refl
  same_direction t j Upward Downward costs lj x y = absurd (one_bound t j costs lj x.meets y.meets)
  same_direction t j Downward Upward costs lj x y = absurd (one_bound t j costs lj y.meets x.meets)

same_mover : (p : Sample) (at : ℕ → ℕ) (a : ℕ → ℕ → ℚ) (j r s : ℕ) (d : Direction) → IsFirstMover p at a j d r → IsFirstMover p at a j d s → r ≡ s
same_mover p at a j r s d x y = by (r == s) refl
  where
    by : (t : Bool) → (r == s) ≡ t → r ≡ s
    by true e = eqb-true r s e
    by false e =
        let other : r ≢ s = eqb-false r s e in
        absurd (no (sym (before_trans p at a j r s r (x.least s y.row y.mover (λ h. other (sym h))) (y.least r x.row x.mover other)) ∙ not_before_itself p at a j r))

module _ (f : Family) (at : ℕ → ℕ) (a : ℕ → ℕ → ℚ) (basis : IsBasis f.sample at a) (reach : ℚ → Bool) (from : ℚ) where
  same_step : (t u : ℚ) (j r k s : ℕ) → HasCosts f.sample (theta_of f t) → IsWalkingStep f at a reach from t j r → IsWalkingStep f at a reach from u k s → (t ≡ u) × (j ≡ k) × (r ≡ s)
  same_step t u j r k s costs x y =
      let place : t ≡ u = same_place f at a from t u j k x.direction y.direction x.break y.break in
      let there : IsNextBreak f at a from t k y.direction = subst (λ u. IsNextBreak f at a from u k y.direction) (sym place) y.break in
      let position : j ≡ k = same_position f at a from t j k x.direction y.direction x.break there in
      let here : IsNextBreak f at a from t j y.direction = subst (λ k. IsNextBreak f at a from t k y.direction) (sym position) there in
      let direction : x.direction ≡ y.direction = same_direction f at a from t j x.direction y.direction costs (basis.distinct.within j x.break.position) x.break.crosses here.crosses in
      let mover : IsFirstMover f.sample at a j x.direction s = subst (λ d. IsFirstMover f.sample at a j d s) (sym direction) (subst (λ k. IsFirstMover f.sample at a k y.direction s) (sym position) y.entering) in
      (place, position, same_mover f.sample at a j r s x.direction x.entering mover)

pub one_walking_step : (f : Family) (at : ℕ → ℕ) (a b : ℕ → ℕ → ℚ) (reach : ℚ → Bool) (from t u : ℚ) (j r k s : ℕ)
    → IsBasis f.sample at a → IsBasis f.sample at b → EndsAt f.sample.columns a → EndsAt f.sample.columns b
    → HasCosts f.sample (theta_of f t) → IsWalkingStep f at a reach from t j r → IsWalkingStep f at b reach from u k s
    → (t ≡ u) × (j ≡ k) × (r ≡ s)
one_walking_step f at a b reach from t u j r k s x y e g costs step other =
    same_step f at a x reach from t u j r k s costs step (subst (λ a. IsWalkingStep f at a reach from u k s) (sym (same_inverse f.sample at a b x y e g)) other)
