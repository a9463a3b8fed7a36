-- Predictions along a process, and why there are none.
use Rattle.std.proofs.Common.{◌≡◌, ℕ, List, length, sym, subst}
use Rattle.std.specs.List.{AllZip}
use Rattle.rational_laws.specs.Fraction.{rational}
use Rattle.rational_laws.specs.Rational.{ℚ}
use Rattle.frac_core.specs.declared.frac128.Frac128.{Frac128}
use Rattle.frac_core.specs.Values.{value}
use Rattle.loss_model.specs.declared.problem.Problem.{Problem}
use Rattle.loss_model.specs.declared.process.Process.{Process}
use Rattle.loss_model.specs.declared.process.Segment.{Segment}
use Rattle.loss_model.specs.declared.stop.Stop.{Stop}
use Rattle.loss_model.specs.declared.stop.Stop.TheVariants as stops
use Rattle.loss_model.specs.Problem.{IsWellShaped}
use Rattle.loss_model.specs.Segment.{Covers, segments_of}
use Rattle.tau_process.specs.Stops.{IsProcessStop}
use Rattle.predict_steps.specs.declared.step.Step.{Step}
use Rattle.predict_steps.specs.Laws.{StepsCover}
use Rattle.predict_steps.specs.Predictions.{pieces, AreSteps}
use Rattle.predict_steps.specs.Rearranged.{AreJoined}
use Rattle.design_matrix.specs.declared.design.PredictRow.{PredictRow}
use Rattle.rq_words.specs.declared.job.FitJob.{FitJob}
use Rattle.report_text.specs.declared.report.PredictFit.{PredictFit}
use Rattle.report_text.specs.declared.report.Prediction.{Prediction}
use Rattle.report_text.specs.declared.report.Place.TheVariants as places
use Rattle.rq_input.specs.declared.predictions.PredictionInput.{PredictionInput}
use Rattle.rq_engine.specs.Halts.{stop_halt}
use Rattle.rq_engine.specs.Fit.{IsRightProcess}
use Rattle.rq_engine.specs.Predicted.{HasPredictedCause, IsPredictFitOf, IsPredictionBy}
use Rattle.rq_engine.specs.Stops.{most}

module _ (segments : List Segment) (row : PredictRow) where
  -- the steps of a row are joined where the segments cover a range
  pub joined : (p : Problem Frac128) → StepsCover value p segments → (rows : ℕ) (lo hi : ℚ) → Covers rows lo hi (segments_of value p segments) → (steps : List Step) → AreSteps value row.x row.offsets segments steps
      → AreJoined lo hi (pieces steps)
  joined p cover rows lo hi covers steps are = subst (AreJoined lo hi) (sym are) (cover rows lo hi row.x row.offsets covers)

-- why the problem of the rows has no process is why they have no predictions
pub predict_stop : (job : FitJob) (asked : PredictionInput) (stop : Stop Frac128) → IsProcessStop value most asked.input.problem (rational (value job.lo)) (rational (value job.hi)) job.limit stop
    → HasPredictedCause job asked (stop_halt places.Process stop)
predict_stop job asked stops.OutOfMemory h = tt
predict_stop job asked other h = h

-- the right process and the predictions along it, with what is told of the design
pub predict_right : (job : FitJob) (asked : PredictionInput) (q : Process) (predictions : List Prediction) → IsWellShaped asked.input.problem → IsRightProcess value job asked.input.problem q
    → AllZip (IsPredictionBy (rational (value job.lo)) (rational (value job.hi)) q.segments) asked.rows predictions → (fit : PredictFit) → fit.kept ≡ length asked.input.design.rows → fit.dropped ≡ asked.input.design.dropped
    → fit.names ≡ asked.input.design.names
    → fit.process ≡ q → fit.predictions ≡ predictions → IsPredictFitOf job asked fit
predict_right job asked q predictions shaped right all fit kept dropped names process made =
    record {
      kept = kept;
      dropped = dropped;
      names = names;
      shaped = shaped;
      process = subst (IsRightProcess value job asked.input.problem) (sym process) right;
      predictions = subst (λ (p : Process). AllZip (IsPredictionBy (rational (value job.lo)) (rational (value job.hi)) p.segments) asked.rows fit.predictions) (sym process)
          (subst (AllZip (IsPredictionBy (rational (value job.lo)) (rational (value job.hi)) q.segments) asked.rows) (sym made) all);
    }
