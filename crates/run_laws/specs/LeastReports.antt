-- Law. What every report says of all coefficients, those of real numbers among them (Koenker 2005, section 1.3).
use Rattle.std.specs.Prelude.{ℕ, List}
use Rattle.frac_core.specs.declared.frac128.Frac128.{Frac128}
use Rattle.frac_core.specs.Values.{value}
use Rattle.loss_model.specs.declared.problem.Problem.{Problem}
use Rattle.loss_model.specs.declared.process.Segment.{Segment}
use Rattle.loss_model.specs.Problem.{sample, number_at}
use Rattle.real_laws.specs.OrderedRings.{OrderedRing}
use Rattle.real_laws.specs.Losses.{MinimisesIn, as_numbers}
use Rattle.report_text.specs.declared.report.Report.{Report}
use Rattle.rq_cli.specs.Outcomes.{IsRun, Stream}
use Rattle.rq_cli.specs.declared.outcome.Outcome.TheVariants.{Done}
use Rattle.run_laws.specs.Reports.{printed, HasSegments}

module _ (R : OrderedRing) where
  -- the coefficients of a segment, as numbers of the ring
  abbrev pub coefficients_in : Problem Frac128 → Segment → ℕ → R.Number
  coefficients_in p s = as_numbers R (sample value p) (number_at s.vertex.coef)

  -- at every quantile of the ring within the segment, also where it is no fraction, no coefficients of the ring lose less than
  -- its own
  abbrev pub IsLeastSegment : Problem Frac128 → Segment → Type 0
  IsLeastSegment p s =
      (theta : R.Number) → R.at_most (R.fraction (printed s.lo)) theta → R.at_most theta (R.fraction (printed s.hi))
      → MinimisesIn R (sample value p) theta (coefficients_in p s)

  -- so it is of all segments of a printed report
  abbrev pub ReportIsLeast : Type 0
  ReportIsLeast =
      (words : List (List ℕ)) (source source' out out' err err' : Stream) (report : Report)
      → IsRun words source source' out out' err err' (Done report) → HasSegments words source source' report IsLeastSegment
