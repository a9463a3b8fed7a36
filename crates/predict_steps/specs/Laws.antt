-- Law. What the laws of steps and of rearrangements say; each is the contract of a function.
use Rattle.std.specs.Prelude.{◌≡◌, ℕ, List, map}
use Rattle.rational_laws.specs.Fraction.{Fraction}
use Rattle.rational_laws.specs.Rational.{ℚ}
use Rattle.loss_model.specs.declared.problem.Problem.{Problem}
use Rattle.loss_model.specs.declared.process.Segment.{Segment}
use Rattle.loss_model.specs.Segment.{Covers, segments_of}
use Rattle.predict_steps.specs.Predictions.{along}
use Rattle.predict_steps.specs.Rearranged.{Piece, AreJoined, IsRearrangement, NeverFall, lengths, total, values}

-- for each value the total length is the same
abbrev pub TotalsStay : Type 0
TotalsStay = (from to : ℚ) (pieces ys : List Piece) → IsRearrangement from to pieces ys → (v : ℚ) → total (lengths v ys) ≡ total (lengths v pieces)

-- pieces that are joined have a rearrangement
abbrev pub RearrangementExists : Type 0
RearrangementExists = (from to : ℚ) (pieces : List Piece) → AreJoined from to pieces → (ys : List Piece) × IsRearrangement from to pieces ys

-- and no other one
abbrev pub RearrangementIsUnique : Type 0
RearrangementIsUnique =
    (from to : ℚ) (pieces ys zs : List Piece) → IsRearrangement from to pieces ys → IsRearrangement from to pieces zs → ys ≡ zs

-- pieces whose values never fall are their own
abbrev pub RisingStepsStay : Type 0
RisingStepsStay = (from to : ℚ) (pieces : List Piece) → AreJoined from to pieces → NeverFall (values pieces) → IsRearrangement from to pieces pieces

-- where segments cover a range, a prediction's steps are joined from its low to its high end
abbrev pub StepsCover : {F : Type 0} → (F → Fraction) → Problem F → List Segment → Type 0
StepsCover {F} value p segments =
    (rows : ℕ) (lo hi : ℚ) (x offsets : List F) → Covers rows lo hi (segments_of value p segments)
    → AreJoined lo hi (map (along value x offsets) segments)
