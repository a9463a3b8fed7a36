-- A basis without a negative slope is optimal.
use Rattle.std.specs.Prelude.{◌≡◌, ℕ, ◌<◌, [], ◌∷◌, pos}
use Rattle.std.proofs.Common.{refl, sym, ap, ◌∙◌}
use Rattle.rational_laws.specs.Solver.{number, ◌⊞◌, v0}
use Rattle.rational_laws.specs.Rational.{ℚ, ◌*ℚ◌, neg_ℚ, whole}
use Rattle.rational_laws.proofs.RationalLaws.{ring_ℚ}
use Rattle.rational_laws.specs.RationalSums.{sum_ℚ}
use Rattle.loss_model.specs.declared.vertex.Side.{Side}
use Rattle.loss_model.specs.declared.vertex.Side.TheVariants.{Up, Down, Basic}
use Rattle.loss_model.specs.Sample.{Sample}
use Rattle.loss_model.specs.Dual.{IsDual}
use Rattle.loss_model.specs.Vertex.{value_of_side}
use Rattle.loss_model.proofs.Duality.{sides}
use Rattle.pivot_model.specs.declared.direction.Direction.TheVariants.{Upward, Downward}
use Rattle.basis_model.specs.Basis.{IsBasis, coefficient, side_at, dual_value}
use Rattle.pivot_model.specs.Duals.{HasCosts, dual}
use Rattle.pivot_model.specs.Steps.{HasNoNegativeSlope}
use Rattle.pivot_model.proofs.Bounds.{bound}
use Rattle.pivot_model.proofs.Sides.{on_side}
use Rattle.pivot_model.proofs.Weighed.{IsWithin, between, solved, held, weigh, within}

module _ (p : Sample) (at : ℕ → ℕ) (a : ℕ → ℕ → ℚ) (basis : IsBasis p at a) (theta : ℚ) where
  -- a dual value is the value of its side
  own : (i : ℕ) (s : Side) → side_at p at a i ≡ s → value_of_side p theta (held p at a basis theta (dual_value p at a theta)) i s ≡ value_of_side p theta (dual p at a theta) i s
  own i Up e = refl
  own i Down e = refl
  own i Basic e = sym (ap (value_of_side p theta (held p at a basis theta (dual_value p at a theta)) i) e)

  -- the rows of the basis balance the others
  balanced : (l : ℕ) → l < p.columns → sum_ℚ p.rows (λ i. dual p at a theta i *ℚ p.x i l) ≡ whole (pos 0)
  balanced l ll =
      weigh p at a basis theta (dual_value p at a theta) l (whole (pos 0))
      (solved p at a basis theta l ll ∙ ring_ℚ (sum_ℚ p.rows (λ i. neg_ℚ (bound p at a theta i) *ℚ p.x i l) ∷ []) v0 (v0 ⊞ number (pos 0)) refl)

  module _ (costs : HasCosts p theta) (stop : HasNoNegativeSlope p at a theta) where
    all_within : (i : ℕ) → i < p.rows → IsWithin p at a basis theta i (dual p at a theta i)
    all_within =
        within p at a basis theta (dual_value p at a theta) costs
        (λ j lj. between p at a basis theta (at j) (dual_value p at a theta j) (stop j Upward lj) (stop j Downward lj))

    pub optimal : IsDual p theta (coefficient p at a) (dual p at a theta)
    optimal =
        sides p theta (coefficient p at a) (dual p at a theta) (side_at p at a)
        (record { lower = λ i li. (all_within i li).0; upper = λ i li. (all_within i li).1; balanced = balanced })
        (λ i li. (on_side p at a basis i, own i (side_at p at a i) refl))
