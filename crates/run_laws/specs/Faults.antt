-- Law. Bytes that are an input have no fault, so a refusal comes only where there is none; nor has a generated table.
use Rattle.std.specs.Prelude.{◌≡◌, ◌≤◌, ℕ, Bool, true, false, List, None, codes}
use Rattle.frac_core.specs.Limits.{most_rows}
use Rattle.table_maker.specs.Tables.{table_of}
use Rattle.loss_model.specs.Problem.{IsWellShaped}
use Rattle.rq_words.specs.declared.job.FitJob.{FitJob}
use Rattle.rq_words.specs.declared.job.TestJob.{TestJob}
use Rattle.report_text.specs.declared.report.Refusal.{Refusal}
use Rattle.report_text.specs.declared.report.Halt.TheVariants.{Refused}
use Rattle.rq_input.specs.Inputs.{HasInputCause, IsInput}
use Rattle.rq_input.specs.Plain.{HasPlainCause}
use Rattle.rq_input.specs.Predictions.{HasPredictionCause, IsPrediction}
use Rattle.rq_input.specs.Tested.{HasTestedCause, IsTested}
use Rattle.rq_input.specs.declared.input.Input.{Input}
use Rattle.rq_input.specs.declared.predictions.PredictionInput.{PredictionInput}

-- where the bytes of a job are an input, and its problem is within the limits of rows and columns, nothing is wrong
-- with them
abbrev pub InputsHaveNoFault : Type 0
InputsHaveNoFault =
    (job : FitJob) (ranked : Bool) (bytes : List ℕ) (input : Input) (refusal : Refusal)
    → IsInput job ranked bytes input → IsWellShaped input.problem → ¬ HasInputCause job ranked bytes (Refused refusal)

-- nor is where no smooths are taken, and they are an input without one
abbrev pub PlainInputsHaveNoFault : Type 0
PlainInputsHaveNoFault =
    (job : FitJob) (bytes : List ℕ) (input : Input) (refusal : Refusal)
    → IsInput job true bytes input → IsWellShaped input.problem → ¬ HasPlainCause job bytes (Refused refusal)

-- where they are the input of a rank test, nothing is wrong with them nor with its tested columns
abbrev pub TestedHaveNoFault : Type 0
TestedHaveNoFault =
    (job : TestJob) (bytes : List ℕ) (input : Input) (refusal : Refusal)
    → IsTested job bytes input → IsWellShaped input.problem → ¬ HasTestedCause job bytes (Refused refusal)

-- where the bytes of a job ask for predictions, and their problem is within the limits of rows and columns, nothing is wrong
-- with them, neither as an input nor in what is predicted
abbrev pub PredictionsHaveNoFault : Type 0
PredictionsHaveNoFault =
    (job : FitJob) (bytes : List ℕ) (asked : PredictionInput) (refusal : Refusal)
    → IsPrediction job bytes asked → IsWellShaped asked.input.problem → ¬ HasPredictionCause job bytes (Refused refusal)

-- the bytes of a job have one fault at most: of a table, of the formula, of the design, of what smooths add, or of the
-- problem
abbrev pub OneInputFault : Type 0
OneInputFault =
    (job : FitJob) (ranked : Bool) (bytes : List ℕ) (a b : Refusal) → HasInputCause job ranked bytes (Refused a)
    → HasInputCause job ranked bytes (Refused b) → a ≡ b

-- nothing is wrong with the bytes of a generated table that has a record, where the response is fitted on
-- all other columns without weights
abbrev pub GeneratedTablesHaveNoFault : Type 0
GeneratedTablesHaveNoFault =
    (job : FitJob) (number rows columns : ℕ) (refusal : Refusal) → job.formula ≡ codes "y ~ ." → job.weights ≡ None
    → 1 ≤ rows → rows ≤ most_rows → columns ≤ 100 → ¬ HasInputCause job false (table_of number rows columns) (Refused refusal)
