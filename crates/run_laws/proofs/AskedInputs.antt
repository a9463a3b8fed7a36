-- The input that the rows of a prediction are asked of.
use Rattle.std.specs.Prelude.{ℕ, true, List}
use Rattle.rq_words.specs.declared.job.FitJob.{FitJob}
use Rattle.rq_input.specs.Inputs.{IsInput}
use Rattle.rq_input.specs.Predictions.{IsPrediction}
use Rattle.rq_input.proofs.PlainInputs.{plain_input}
use Rattle.rq_input.specs.declared.predictions.PredictionInput.{PredictionInput}

-- it has no smooths, as where ranks are asked for
pub asked_input : (fit : FitJob) (bytes : List ℕ) (asked : PredictionInput) → IsPrediction fit bytes asked → IsInput fit true bytes asked.input
asked_input fit bytes asked is = plain_input fit is.0 is.2.model asked.input is.2.by bytes is.1
