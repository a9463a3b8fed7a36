-- Law. Which other responses leave the segments of a printed report as they are (Koenker 2005, chapter 2, on robustness).
use Rattle.std.specs.Prelude.{◌<◌, ℕ, List, length, slice_get}
use Rattle.std.specs.Option.{option_map_or}
use Rattle.rational_laws.specs.Rational.{ℚ}
use Rattle.frac_core.specs.declared.frac128.Frac128.{Frac128}
use Rattle.frac_core.specs.Values.{value}
use Rattle.loss_model.specs.declared.problem.Problem.{Problem}
use Rattle.loss_model.specs.declared.process.Segment.{Segment}
use Rattle.loss_model.specs.declared.vertex.Side.{Side}
use Rattle.loss_model.specs.declared.vertex.Side.TheVariants.{Basic}
use Rattle.loss_model.specs.Sample.{residual}
use Rattle.loss_model.specs.Dual.{IsDual}
use Rattle.loss_model.specs.Problem.{sample, number_at}
use Rattle.loss_model.specs.Segment.{dual_at}
use Rattle.loss_model.specs.Vertex.{IsOn}
use Rattle.quantile_laws.specs.Equivariance.{answered}
use Rattle.report_text.specs.declared.report.Report.{Report}
use Rattle.rq_cli.specs.Outcomes.{IsRun, Stream}
use Rattle.rq_cli.specs.declared.outcome.Outcome.TheVariants.{Done}
use Rattle.run_laws.specs.Reports.{printed, HasSegments}

-- the side that the mark of row i stands for: above the fit, below it, or of the basis
abbrev pub marked_side : Segment → ℕ → Side
marked_side s i = option_map_or (λ side. side) (slice_get s.vertex.sides i) Basic

-- the responses y lie, seen from the coefficients of the segment, where its marks say: a record with the mark 1 on the fit or
-- above it, with the mark 0 on it or below it, and one of the basis on it
abbrev pub LieAsMarked : Problem Frac128 → Segment → (ℕ → ℚ) → Type 0
LieAsMarked p s y =
    (i : ℕ) → i < length p.rows
    → IsOn (marked_side s i) (residual (answered y (sample value p)) (number_at s.vertex.coef) i)

-- then the coefficients minimise for these responses too, at both ends, with the same dual values and so the same scores
pub record StaysFor (p : Problem Frac128) (s : Segment) (y : ℕ → ℚ) : Type 0 where
  pub at_lo : IsDual (answered y (sample value p)) (printed s.lo) (number_at s.vertex.coef) (dual_at value p s.vertex s.basic_lo s.lo)
  pub at_hi : IsDual (answered y (sample value p)) (printed s.hi) (number_at s.vertex.coef) (dual_at value p s.vertex s.basic_hi s.hi)

-- a segment stays for all such responses
abbrev pub IsSteady : Problem Frac128 → Segment → Type 0
IsSteady p s = (y : ℕ → ℚ) → LieAsMarked p s y → StaysFor p s y

-- so do all segments of a printed report
abbrev pub ReportIsSteady : Type 0
ReportIsSteady =
    (words : List (List ℕ)) (source source' out out' err err' : Stream) (report : Report)
    → IsRun words source source' out out' err err' (Done report) → HasSegments words source source' report IsSteady
