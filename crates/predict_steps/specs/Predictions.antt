-- Stated. Predictions by the coefficients of a process, as steps over its segments.
use Rattle.std.specs.Prelude.{◌≡◌, List, length, map}
use Rattle.rational_laws.specs.Fraction.{Fraction, rational}
use Rattle.rational_laws.specs.Rational.{ℚ, ◌+ℚ◌, ◌*ℚ◌}
use Rattle.rational_laws.specs.RationalSums.{sum_ℚ}
use Rattle.loss_model.specs.declared.process.Segment.{Segment}
use Rattle.loss_model.specs.Problem.{number_at, value_at}
use Rattle.predict_steps.specs.declared.step.Step.{Step}
use Rattle.predict_steps.specs.Rearranged.{Piece}

-- a step as a piece in ℚ
abbrev pub piece : Step → Piece
piece s = record { lo = rational s.lo; hi = rational s.hi; value = rational s.value }

abbrev pub pieces : List Step → List Piece
pieces steps = map piece steps

module _ {F : Type 0} (value : F → Fraction) where
  -- the sum of the entries times the coefficients
  abbrev pub fitted : List F → List Fraction → ℚ
  fitted x coef = sum_ℚ (length x) (λ k. value_at value x k *ℚ number_at coef k)

  -- that, plus the offsets
  abbrev pub prediction : List F → List F → List Fraction → ℚ
  prediction x offsets coef = fitted x coef +ℚ sum_ℚ (length offsets) (value_at value offsets)

  -- the prediction along a segment
  abbrev pub along : List F → List F → Segment → Piece
  along x offsets s = record { lo = rational s.lo; hi = rational s.hi; value = prediction x offsets s.vertex.coef }

  -- the steps of a prediction: one along each segment
  abbrev pub AreSteps : List F → List F → List Segment → List Step → Type 0
  AreSteps x offsets segments steps = pieces steps ≡ map (along x offsets) segments
