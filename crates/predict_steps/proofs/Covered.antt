-- Segments that cover a range, as pieces that are joined.
use Rattle.std.specs.Prelude.{◌≡◌, ℕ, suc, ◌+◌, ◌-◌, ◌<◌, List, [], ◌∷◌, length, map}
use Rattle.std.proofs.Common.{arith, sym, ap, ◌∙◌}
use Rattle.rational_laws.specs.Fraction.{Fraction, rational}
use Rattle.rational_laws.specs.Rational.{ℚ}
use Rattle.loss_model.specs.declared.problem.Problem.{Problem}
use Rattle.loss_model.specs.declared.process.Segment.{Segment}
use Rattle.loss_model.specs.Segment.{of_segment}
use Rattle.predict_steps.specs.Laws.{StepsCover}
use Rattle.predict_steps.specs.Predictions.{along}
use Rattle.predict_steps.specs.Rearranged.{AreJoined}

module _ {F : Type 0} (value : F → Fraction) (x offsets : List F) where
  joined : (segments : List Segment) (lo hi : ℚ) → 0 < length segments → of_segment segments (λ s. rational s.lo) 0 ≡ lo
      → of_segment segments (λ s. rational s.hi) (length segments - 1) ≡ hi
      → ((j : ℕ) → j + 1 < length segments → of_segment segments (λ s. rational s.hi) j ≡ of_segment segments (λ s. rational s.lo) (j + 1))
      → AreJoined lo hi (map (along value x offsets) segments)
  joined [] lo hi some first last links = absurd (omega (arith, some))
  joined (s ∷ []) lo hi some first last links = (first, last)
  joined (s ∷ t ∷ rest) lo hi some first last links = (
    first,
    joined (t ∷ rest) (rational s.hi) hi (omega arith) (sym (links 0 (omega arith)))
        (ap (of_segment (s ∷ t ∷ rest) (λ s. rational s.hi)) one_less ∙ last)
        (λ j l. links (suc j) (omega (arith, l)) ∙ ap (of_segment (s ∷ t ∷ rest) (λ s. rational s.lo)) (next j)),
  )
    where
      one_less : suc (length (t ∷ rest) - 1) ≡ length (s ∷ t ∷ rest) - 1
      one_less = omega arith

      next : (j : ℕ) → suc j + 1 ≡ suc (j + 1)
      next j = omega arith

pub steps_cover : {F : Type 0} (value : F → Fraction) (p : Problem F) (segments : List Segment) → StepsCover value p segments
steps_cover value p segments rows lo hi x offsets covers = joined value x offsets segments lo hi covers.some covers.first covers.last covers.joined
