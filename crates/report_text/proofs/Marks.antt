-- Marks are rankscores: the law of the rows outside a basis, by the marks of their sides.
use Rattle.std.proofs.Common.{◌≡◌, ℕ, Bool, true, false, List, [], ◌∷◌, slice_get, Some, nat_lt, codes, pos, arith}
use Rattle.rational_laws.specs.Fraction.{Fraction}
use Rattle.rational_laws.specs.Rational.{ℚ, whole}
use Rattle.loss_model.specs.declared.problem.Problem.{Problem}
use Rattle.loss_model.specs.declared.process.Segment.{Segment}
use Rattle.loss_model.specs.declared.vertex.Side.{Side}
use Rattle.loss_model.specs.declared.vertex.Side.TheVariants.{Up, Down, Basic}
use Rattle.loss_model.specs.Dual.{IsDataRow, rankscore}
use Rattle.loss_model.specs.Laws.{SidesAreScores}
use Rattle.loss_model.specs.Problem.{sample}
use Rattle.loss_model.specs.Vertex.{dual_value}
use Rattle.report_text.specs.Marks.{MarksAreScores}
use Rattle.report_text.specs.ReportText.{score_mark}

first_is : (x y : ℕ) → x ∷ [] ≡ y ∷ [] → x ≡ y
first_is x y h = cc h

module _ {F : Type 0} (value : F → Fraction) (p : Problem F) (s : Segment) (scores : SidesAreScores value p s.vertex)
    (theta : ℚ) (basic : List Fraction) (i : ℕ) (row : IsDataRow (sample value p) i) where
  abbrev score : ℚ
  score = rankscore (sample value p) theta (dual_value value p s.vertex basic theta) i

  marked_one : (b : Bool) (side : Side) → slice_get s.vertex.sides i ≡ Some side → score_mark b side ∷ [] ≡ codes "1" → score ≡ whole (pos 1)
  marked_one true Up at h = (scores theta basic i row).0 at
  marked_one true Down at h = absurd (omega (arith, first_is 48 49 h))
  marked_one true Basic at h = absurd (omega (arith, first_is 42 49 h))
  marked_one false Up at h = absurd (omega (arith, first_is 43 49 h))
  marked_one false Down at h = absurd (omega (arith, first_is 45 49 h))
  marked_one false Basic at h = absurd (omega (arith, first_is 42 49 h))

  marked_none : (b : Bool) (side : Side) → slice_get s.vertex.sides i ≡ Some side → score_mark b side ∷ [] ≡ codes "0" → score ≡ whole (pos 0)
  marked_none true Up at h = absurd (omega (arith, first_is 49 48 h))
  marked_none true Down at h = (scores theta basic i row).1 at
  marked_none true Basic at h = absurd (omega (arith, first_is 42 48 h))
  marked_none false Up at h = absurd (omega (arith, first_is 43 48 h))
  marked_none false Down at h = absurd (omega (arith, first_is 45 48 h))
  marked_none false Basic at h = absurd (omega (arith, first_is 42 48 h))

pub marks : {F : Type 0} (value : F → Fraction) (p : Problem F) (n : ℕ) (s : Segment) → SidesAreScores value p s.vertex → MarksAreScores value p n s
marks value p n s scores theta basic i side row at =
    (marked_one value p s scores theta basic i row (nat_lt i n) side at, marked_none value p s scores theta basic i row (nat_lt i n) side at)
