-- How a trail goes on.
use Rattle.std.specs.Prelude.{◌≡◌, ℕ, List, [], ◌∷◌, ◌++◌, map, slice_index, slice_set, Some}
use Rattle.std.proofs.Common.{refl, sym, ap, subst, ◌∙◌}
use Rattle.rational_laws.specs.Fraction.{rational}
use Rattle.rational_laws.specs.Rational.{ℚ}
use Rattle.loss_model.specs.declared.process.Exchange.{Exchange}
use Rattle.loss_model.specs.declared.process.Trail.{Trail}
use Rattle.loss_model.specs.Sample.{Sample}
use Rattle.loss_model.specs.Greedy.{IsGreedyBasis}
use Rattle.pivot_model.specs.Steps.{IsSolvingStep}
use Rattle.pivot_model.specs.Trails.{AtBasis, basis_after, AreSolvingSteps, IsSolvingTrail}

after_more : (basis : List ℕ) (steps : List Exchange) (s : Exchange) → basis_after basis (steps ++ s ∷ []) ≡ slice_set (basis_after basis steps) s.position s.row
after_more basis [] s = refl
after_more basis (t ∷ steps) s = after_more (slice_set basis t.position t.row) steps s

steps_more : (p : Sample) (theta : ℚ) (basis : List ℕ) (steps : List Exchange) (s : Exchange) → AreSolvingSteps p theta basis steps → rational s.theta ≡ theta
    → AtBasis p (basis_after basis steps) (λ a. IsSolvingStep p (slice_index (basis_after basis steps)) a theta s.position s.row) → AreSolvingSteps p theta basis (steps ++ s ∷ [])
steps_more p theta basis [] s h e step = (e, step, tt)
steps_more p theta basis (t ∷ steps) s h e step = (h.0, h.1, steps_more p theta (slice_set basis t.position t.row) steps s h.2 e step)

-- the trail with one more step
pub trail_more : (p : Sample) (theta : ℚ) (before after : Trail) (basis next : List ℕ) (s : Exchange) → IsSolvingTrail p theta before basis
    → rational s.theta ≡ theta → AtBasis p basis (λ a. IsSolvingStep p (slice_index basis) a theta s.position s.row)
    → after.start ≡ before.start → after.steps ≡ before.steps ++ s ∷ [] → after.rise ≡ before.rise → after.fall ≡ before.fall
    → next ≡ slice_set basis s.position s.row → IsSolvingTrail p theta after next
trail_more p theta before after basis next s h e step start steps rise fall put =
    record {
      first = h.first;
      begins = start ∙ h.begins;
      greedy = h.greedy;
      lawful = subst (AreSolvingSteps p theta h.first) (sym steps)
          (steps_more p theta h.first before.steps s h.lawful e
          (subst (λ b. AtBasis p b (λ a. IsSolvingStep p (slice_index b) a theta s.position s.row)) (sym h.leads) step));
      leads = ap (basis_after h.first) steps ∙ after_more h.first before.steps s ∙ ap (λ b. slice_set b s.position s.row) h.leads ∙ sym put;
      rise = rise ∙ h.rise;
      fall = fall ∙ h.fall;
    }

-- the trail of a start
pub trail_of_start : (p : Sample) (theta : ℚ) (trail : Trail) (basis : List ℕ) → trail.start ≡ map Some basis → trail.steps ≡ [] → trail.rise ≡ [] → trail.fall ≡ [] → IsGreedyBasis p basis
    → IsSolvingTrail p theta trail basis
trail_of_start p theta trail basis start steps rise fall greedy =
    record {
      first = basis;
      begins = start;
      greedy = greedy;
      lawful = subst (AreSolvingSteps p theta basis) (sym steps) tt;
      leads = ap (basis_after basis) steps;
      rise = rise;
      fall = fall;
    }
