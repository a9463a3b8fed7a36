-- Law. What the marks of a report say of rankscores (Gutenbrunner and Jurečková 1992).
use Rattle.std.specs.Prelude.{◌≡◌, ℕ, List, codes, slice_get, Some, pos}
use Rattle.rational_laws.specs.Rational.{ℚ, whole}
use Rattle.rational_laws.specs.Fraction.{Fraction}
use Rattle.loss_model.specs.declared.problem.Problem.{Problem}
use Rattle.loss_model.specs.declared.process.Segment.{Segment}
use Rattle.loss_model.specs.declared.vertex.Side.{Side}
use Rattle.loss_model.specs.Dual.{IsDataRow, rankscore}
use Rattle.loss_model.specs.Problem.{sample}
use Rattle.loss_model.specs.Vertex.{dual_value}
use Rattle.report_text.specs.ReportText.{row_mark}

-- a data row that is marked 1 has the rankscore 1 at every quantile, and one that is marked 0 the rankscore 0, whatever the dual
-- values of the basic rows are
abbrev pub MarksAreScores : {F : Type 0} → (F → Fraction) → Problem F → ℕ → Segment → Type 0
MarksAreScores {F} value p n s =
    (theta : ℚ) (basic : List Fraction) (i : ℕ) (side : Side) → IsDataRow (sample value p) i → slice_get s.vertex.sides i ≡ Some side
    → (row_mark n i side ≡ codes "1" → rankscore (sample value p) theta (dual_value value p s.vertex basic theta) i ≡ whole (pos 1))
    × (row_mark n i side ≡ codes "0" → rankscore (sample value p) theta (dual_value value p s.vertex basic theta) i ≡ whole (pos 0))
