-- Stated. What bytes ask to be predicted, and why nothing is.
use Rattle.std.specs.Prelude.{◌≡◌, ◌≢◌, ◌⊎◌, ℕ, ◌+◌, ◌<◌, ◌≤◌, ◌^◌, List, [], Some, length, slice_get, take}
use Rattle.std.specs.List.{AllZip}
use Rattle.contrasts.specs.declared.Coding.{Coding}
use Rattle.formula_parser.specs.declared.formula.Formula.{Formula}
use Rattle.design_matrix.specs.Cells.{Table}
use Rattle.design_matrix.specs.Predicted.{HasRowCause, IsPredictRow, kept_in, predicted}
use Rattle.design_matrix.specs.declared.design.Design.{Design}
use Rattle.design_matrix.specs.declared.design.PredictRow.{PredictRow}
use Rattle.design_matrix.specs.declared.fault.DesignFault.{DesignFault}
use Rattle.design_matrix.specs.declared.fault.DesignFault.TheVariants as designs
use Rattle.rq_words.specs.declared.job.FitJob.{FitJob}
use Rattle.report_text.specs.declared.report.Refusal.{Refusal}
use Rattle.report_text.specs.declared.report.Refusal.TheVariants as refusals
use Rattle.report_text.specs.declared.report.Halt.{Halt}
use Rattle.report_text.specs.declared.report.Halt.TheVariants.{Refused}
use Rattle.rq_input.specs.Inputs.{AreTable}
use Rattle.rq_input.specs.Plain.{HasPlainCause, IsPlainModel}
use Rattle.rq_input.specs.Rows.{HasRows}
use Rattle.rq_input.specs.declared.input.Input.{Input}
use Rattle.rq_input.specs.declared.predictions.PredictionInput.{PredictionInput}

-- the most records that are predicted
abbrev pub most_predictions : ℕ
most_predictions = 64

-- the rows of the records that are predicted, by the levels of the design's records; there are 1 to 64
pub record ArePredicted (table : Table) (model : Formula) (coding : Coding) (design : Design) (rows : List PredictRow) : Type 0 where
  pub each : AllZip (IsPredictRow table model coding (kept_in design)) (predicted table model) rows
  pub some : 1 ≤ length rows
  pub few : length rows ≤ most_predictions

-- the input of a table whose formula has no smooths, and these rows
pub record IsTablePrediction (job : FitJob) (table : Table) (asked : PredictionInput) : Type 0 where
  pub model : Formula
  pub by : IsPlainModel job table model asked.input
  pub rows : ArePredicted table model job.coding asked.input.design asked.rows

-- so is the table that the bytes are
abbrev pub IsPrediction : FitJob → List ℕ → PredictionInput → Type 0
IsPrediction job bytes asked = (table : Table) × AreTable bytes table × IsTablePrediction job table asked

-- an entry for each of so many columns, and no more terms than a site can number
pub record HasEntries (columns : ℕ) (row : PredictRow) : Type 0 where
  pub entries : length row.x ≡ columns
  pub terms : length row.x + length row.offsets < 2 ^ 32

-- ---- why there are none

-- the records before one have their rows, and that one has none, for this fault
pub record LacksRow (table : Table) (model : Formula) (coding : Coding) (design : Design) (fault : DesignFault) : Type 0 where
  pub number : ℕ
  pub rec : ℕ
  pub there : slice_get (predicted table model) number ≡ Some rec
  pub before : List PredictRow
  pub rows : AllZip (IsPredictRow table model coding (kept_in design)) (take number (predicted table model)) before
  pub named : fault ≢ designs.OutOfMemory
  pub cause : HasRowCause table model coding (kept_in design) rec fault

-- there is no such record, or there are more than 64, or one of them has no row
abbrev pub HasRecordsCause : Table → Formula → Coding → Design → Refusal → Type 0
HasRecordsCause table model coding design refusals.NothingToPredict = predicted table model ≡ []
HasRecordsCause table model coding design (refusals.TooManyPredictions n) = (n ≡ length (predicted table model)) × (most_predictions < n)
HasRecordsCause table model coding design (refusals.Design fault) =
    (1 ≤ length (predicted table model)) × (length (predicted table model) ≤ most_predictions) × LacksRow table model coding design fault
HasRecordsCause table model coding design _ = ⊥

-- the table has an input, and this is why its records aren't predicted
pub record LacksPredictions (job : FitJob) (table : Table) (refusal : Refusal) : Type 0 where
  pub model : Formula
  pub input : Input
  pub by : IsPlainModel job table model input
  pub rows : HasRows input
  pub cause : HasRecordsCause table model job.coding input.design refusal

-- so it is of the table that the bytes are
abbrev pub LackPredictions : FitJob → List ℕ → Refusal → Type 0
LackPredictions job bytes refusal = (table : Table) × AreTable bytes table × LacksPredictions job table refusal

-- why bytes have no predictions: they have no input, or its records aren't predicted
abbrev pub HasPredictionCause : FitJob → List ℕ → Halt → Type 0
HasPredictionCause job bytes (Refused refusals.NothingToPredict) = LackPredictions job bytes refusals.NothingToPredict
HasPredictionCause job bytes (Refused (refusals.TooManyPredictions n)) = LackPredictions job bytes (refusals.TooManyPredictions n)
HasPredictionCause job bytes (Refused (refusals.Design fault)) =
    HasPlainCause job bytes (Refused (refusals.Design fault)) ⊎ LackPredictions job bytes (refusals.Design fault)
HasPredictionCause job bytes halt = HasPlainCause job bytes halt
