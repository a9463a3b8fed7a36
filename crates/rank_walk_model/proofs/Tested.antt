-- Dual values over what one column weighs, as values of the restricted problem.
use Rattle.std.specs.Prelude.{◌≡◌, ◌≢◌, ℕ, ◌<◌, [], ◌∷◌, pos}
use Rattle.std.proofs.Common.{refl, sym, ap, ap₂, subst, ◌∙◌}
use Rattle.rational_laws.specs.Solver.{number, ◌⊠◌, v0, v1}
use Rattle.rational_laws.specs.Rational.{ℚ, ◌*ℚ◌, whole, ◌≤ℚ◌}
use Rattle.rational_laws.proofs.RationalLaws.{ring_ℚ, ring_by_ℚ}
use Rattle.loss_model.specs.Sample.{Sample}
use Rattle.pivot_model.specs.declared.direction.Direction.{Direction}
use Rattle.basis_model.specs.Basis.{IsBasis, coefficient}
use Rattle.pivot_model.specs.Duals.{HasCosts}
use Rattle.walk_model.specs.Families.{Family, by_weight, IsFeasibleIn, dual_in, slope_in, IsOptimalIn}
use Rattle.walk_model.specs.Walks.{IsFirstMover, AreExchanged}
use Rattle.walk_model.proofs.Stays.{feasible, complementary, both_complement}
use Rattle.loss_model.specs.Strict.{◌<ℚ◌}
use Rattle.rank_model.specs.Restricted.{IsFeasibleWithout, IsOptimalAt, rank_statistic, rank_bound}
use Rattle.rank_model.specs.Bounds.{IsInside, IsBeyond}
use Rattle.rank_model.proofs.Optimal as ranks

module _ (p : Sample) (tau : ℚ) (j : ℕ) (lj : j < p.columns) (right : ℕ → ℚ) (sigma : ℚ) (own : right j ≡ sigma)
    (others : (k : ℕ) → k ≢ j → right k ≡ whole (pos 0)) (square : sigma *ℚ sigma ≡ whole (pos 1)) where
  abbrev pub f : Family
  f = record { sample = p; parameter = by_weight tau; right = right }

  pub feasible_without : (t : ℚ) (e : ℕ → ℚ) → IsFeasibleIn f t e → IsFeasibleWithout p j tau e
  feasible_without t e h =
      record {
        lower = h.lower;
        upper = h.upper;
        balanced = λ k l other. h.balanced k l ∙ ap (λ z. z *ℚ t) (others k other) ∙ ring_ℚ (t ∷ []) (number (pos 0) ⊠ v0) (number (pos 0)) refl;
      }

  pub statistic_is : (t : ℚ) (e : ℕ → ℚ) → IsFeasibleIn f t e → rank_statistic p j e ≡ sigma *ℚ t
  statistic_is t e h = h.balanced j lj ∙ ap (λ z. z *ℚ t) own

  pub square_is : (t : ℚ) (e : ℕ → ℚ) → IsFeasibleIn f t e → rank_statistic p j e *ℚ rank_statistic p j e ≡ t *ℚ t
  square_is t e h =
      ap₂ ◌*ℚ◌ (statistic_is t e h) (statistic_is t e h)
      ∙ ring_by_ℚ (sigma ∷ t ∷ []) ((v0 ⊠ v1) ⊠ (v0 ⊠ v1)) (v1 ⊠ v1) (v1 ⊠ v1) (v0 ⊠ v0) (number (pos 1)) refl square

  module _ (at : ℕ → ℕ) (a : ℕ → ℕ → ℚ) (basis : IsBasis p at a) (costs : HasCosts p tau) where
    module _ (t : ℚ) (stop : IsOptimalIn f at a t) where
      pub is_feasible : IsFeasibleIn f t (dual_in f at a t)
      is_feasible = feasible f at a basis t costs stop

      -- the dual values are optimal at the coefficient of the basis
      pub optimal_here : IsOptimalAt p j tau (coefficient p at a j) (dual_in f at a t)
      optimal_here =
          ranks.complementary p j tau (coefficient p at a) (dual_in f at a t) lj (feasible_without t (dual_in f at a t) is_feasible)
          (complementary f at a basis t)

      pub is_inside : (crit q : ℚ) → (t *ℚ t) ≤ℚ rank_bound tau crit q → IsInside p j tau crit q (coefficient p at a j) (dual_in f at a t)
      is_inside crit q h =
          record { optimal = optimal_here; within = subst (λ z. z ≤ℚ rank_bound tau crit q) (sym (square_is t (dual_in f at a t) is_feasible)) h }

      pub is_beyond : (crit q : ℚ) → rank_bound tau crit q <ℚ (t *ℚ t) → IsBeyond p j tau crit q (coefficient p at a j) (dual_in f at a t)
      is_beyond crit q h =
          record { optimal = optimal_here; beyond = subst (λ z. rank_bound tau crit q <ℚ z) (sym (square_is t (dual_in f at a t) is_feasible)) h }

      -- and at that of the next one, where a step is made
      pub optimal_next : (next : ℕ → ℕ) (b : ℕ → ℕ → ℚ) (k r : ℕ) (d : Direction) → IsBasis p next b → AreExchanged p.columns at next k r
          → k < p.columns → IsFirstMover p at a k d r → slope_in f at a t k d ≡ whole (pos 0) → IsOptimalAt p j tau (coefficient p next b j) (dual_in f at a t)
      optimal_next next b k r d new exchange lk first meets =
          ranks.complementary p j tau (coefficient p next b) (dual_in f at a t) lj (feasible_without t (dual_in f at a t) is_feasible)
          (both_complement f at next a b t k r d basis new exchange lk first meets).1
