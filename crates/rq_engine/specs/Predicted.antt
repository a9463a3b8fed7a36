-- Stated. The right predictions of an input over a range of quantiles, and why there are none.
use Rattle.std.specs.Prelude.{◌≡◌, All, List, length, ⊤}
use Rattle.std.specs.List.{AllZip}
use Rattle.rational_laws.specs.Fraction.{rational}
use Rattle.rational_laws.specs.Rational.{ℚ}
use Rattle.frac_core.specs.Values.{value}
use Rattle.loss_model.specs.declared.process.Segment.{Segment}
use Rattle.loss_model.specs.Problem.{sample, IsWellShaped}
use Rattle.loss_model.specs.StartStop.{IsDependent}
use Rattle.walk_model.specs.WalkTrails.{ReachesProcessLimit}
use Rattle.tau_process.specs.Stops.{IsProcessSpill}
use Rattle.predict_steps.specs.LowestSteps.{IsLowestStep}
use Rattle.predict_steps.specs.Predictions.{pieces, AreSteps}
use Rattle.predict_steps.specs.Rearranged.{IsRearrangement}
use Rattle.design_matrix.specs.declared.design.PredictRow.{PredictRow}
use Rattle.rq_words.specs.declared.job.FitJob.{FitJob}
use Rattle.report_text.specs.declared.report.PredictFit.{PredictFit}
use Rattle.report_text.specs.declared.report.Prediction.{Prediction}
use Rattle.report_text.specs.declared.report.Refusal.TheVariants.{Dependent}
use Rattle.report_text.specs.declared.report.Place.TheVariants as places
use Rattle.report_text.specs.declared.report.Halt.{Halt}
use Rattle.report_text.specs.declared.report.Halt.TheVariants.{Refused, OutOfMemory, PivotLimit, Overflow}
use Rattle.rq_input.specs.declared.predictions.PredictionInput.{PredictionInput}
use Rattle.rq_engine.specs.Fit.{IsRightProcess}
use Rattle.rq_engine.specs.Stops.{most}

-- the prediction of a row: a step along each of the segments, and the rearrangement of these from lo to hi, all in lowest terms
pub record IsPredictionBy (lo hi : ℚ) (segments : List Segment) (row : PredictRow) (prediction : Prediction) : Type 0 where
  pub named : prediction.rec ≡ row.rec
  pub steps : AreSteps value row.x row.offsets segments prediction.steps
  pub rearranged : IsRearrangement lo hi (pieces prediction.steps) (pieces prediction.rearranged)
  pub lowest_steps : All IsLowestStep prediction.steps
  pub lowest : All IsLowestStep prediction.rearranged

-- the right process of the problem of the input, and the predictions along it of the rows that are asked; what is told
-- beside is the design's
pub record IsPredictFitOf (job : FitJob) (asked : PredictionInput) (fit : PredictFit) : Type 0 where
  pub kept : fit.kept ≡ length asked.input.design.rows
  pub dropped : fit.dropped ≡ asked.input.design.dropped
  pub names : fit.names ≡ asked.input.design.names
  pub shaped : IsWellShaped asked.input.problem
  pub process : IsRightProcess value job asked.input.problem fit.process
  pub predictions : AllZip (IsPredictionBy (rational (value job.lo)) (rational (value job.hi)) fit.process.segments) asked.rows fit.predictions

-- ---- why there are none

-- why an input has no predictions: dependent columns, a limit that is reached, or an operation of the process that overflows. Want
-- of memory is free of a cause
abbrev pub HasPredictedCause : FitJob → PredictionInput → Halt → Type 0
HasPredictedCause job asked (Refused (Dependent combination)) = IsDependent value asked.input.problem combination
HasPredictedCause job asked OutOfMemory = ⊤
HasPredictedCause job asked (PivotLimit places.Process limit trail) =
    (limit ≡ job.limit) × ReachesProcessLimit (sample value asked.input.problem) (rational (value job.lo)) (rational (value job.hi)) job.limit trail
HasPredictedCause job asked (Overflow places.Process trail spill) =
    IsProcessSpill value most asked.input.problem (rational (value job.lo)) (rational (value job.hi)) job.limit trail spill
HasPredictedCause job asked _ = ⊥
