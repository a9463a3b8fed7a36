-- Bytes that ask for predictions have no fault: neither as an input, nor in what is predicted.
use Rattle.std.proofs.Common.{◌≢◌, ◌-◌, ℕ, true, List, length, arith, inl, inr, sym, ap, subst, ◌∙◌}
use Rattle.loss_model.specs.Problem.{IsWellShaped}
use Rattle.contrasts.specs.declared.Coding.{Coding}
use Rattle.formula_grammar.specs.Faults.{NoFormulaHasFaults}
use Rattle.formula_grammar.specs.Grammar.{OneFormula}
use Rattle.formula_parser.specs.declared.formula.Formula.{Formula}
use Rattle.design_matrix.specs.Cells.{Table}
use Rattle.design_matrix.specs.Computed.{expressions}
use Rattle.design_matrix.specs.Predicted.{HasRowCause, IsPredictRow, in_ariths, in_entries, kept_in, predicted}
use Rattle.design_matrix.specs.declared.design.Design.{Design}
use Rattle.design_matrix.specs.declared.design.PredictRow.{PredictRow}
use Rattle.design_matrix.specs.declared.fault.DesignFault.{DesignFault}
use Rattle.design_matrix.specs.declared.fault.DesignFault.TheVariants as designs
use Rattle.rq_words.specs.declared.job.FitJob.{FitJob}
use Rattle.report_text.specs.declared.report.Refusal.{Refusal}
use Rattle.report_text.specs.declared.report.Refusal.TheVariants as refusals
use Rattle.report_text.specs.declared.report.Halt.TheVariants.{Refused}
use Rattle.rq_input.specs.Inputs.{IsModelInput}
use Rattle.rq_input.specs.Plain.{HasPlainCause}
use Rattle.rq_input.specs.Predictions.{ArePredicted, HasPredictionCause, HasRecordsCause, IsPrediction, LackPredictions, LacksPredictions}
use Rattle.rq_input.specs.declared.input.Input.{Input}
use Rattle.rq_input.specs.declared.predictions.PredictionInput.{PredictionInput}
use Rattle.rq_input.proofs.Lists.{zip_item, zip_length}
use Rattle.rq_input.proofs.PlainInputs.{plain_input}
use Rattle.run_laws.specs.Faults.{PredictionsHaveNoFault}
use Rattle.run_laws.proofs.Faultless.{one_table}
use Rattle.run_laws.proofs.Parsed.{one_formula}
use Rattle.run_laws.proofs.Plain.{plain_sound}
use Rattle.run_laws.proofs.Overflows.{none_in_ariths}
use Rattle.run_laws.proofs.Products.{none_in_row}
use Rattle.run_laws.proofs.Sound.{one_design}

-- ---- the rows

module _ (table : Table) (model : Formula) (coding : Coding) where
  -- a record that has its row has no fault
  no_row_fault : (records : List ℕ) (rec : ℕ) (row : PredictRow) (fault : DesignFault) → IsPredictRow table model coding records rec row → fault ≢ designs.OutOfMemory → ¬ HasRowCause table model coding records rec fault
  no_row_fault records rec row fault is named (inl memory) = named memory
  no_row_fault records rec row fault is named (inr (inl unknown)) = absurd (cc (sym is.known ∙ unknown))
  no_row_fault records rec row fault is named (inr (inr late)) = elim late.1.2 [
    | in_ariths h ↦ none_in_ariths table (expressions model) (rec - 1) late.1.0 is.computed h
    | in_entries a h ↦ none_in_row _ _ rec late.1.0 is.fits h
  ]

  no_records_fault : (design : Design) (rows : List PredictRow) → ArePredicted table model coding design rows → (refusal : Refusal) → ¬ HasRecordsCause table model coding design refusal
  no_records_fault design rows are refusals.NothingToPredict h =
      let n = zip_length (IsPredictRow table model coding (kept_in design)) (predicted table model) rows are.each in
      absurd (omega (arith, are.some, n, ap length h))
  no_records_fault design rows are (refusals.TooManyPredictions found) h =
      let n = zip_length (IsPredictRow table model coding (kept_in design)) (predicted table model) rows are.each in
      absurd (omega (arith, are.few, n, h.0, h.1))
  no_records_fault design rows are (refusals.Design fault) h =
      let lacks = h.2 in
      let row = zip_item (IsPredictRow table model coding (kept_in design)) (predicted table model) rows lacks.number lacks.rec are.each lacks.there in
      no_row_fault (kept_in design) lacks.rec row.0 fault row.1 lacks.named lacks.cause
  no_records_fault design rows are refusal h = h

-- ---- the bytes

module _ (one : OneFormula) (none : NoFormulaHasFaults) (job : FitJob) (bytes : List ℕ) (asked : PredictionInput) (is : IsPrediction job bytes asked) (shaped : IsWellShaped asked.input.problem) where
  no_plain_fault : (refusal : Refusal) → ¬ HasPlainCause job bytes (Refused refusal)
  no_plain_fault = plain_sound one none job bytes asked.input (plain_input job is.0 is.2.model asked.input is.2.by bytes is.1) shaped

  -- an input of the table by a model, and why its records aren't predicted
  abbrev LacksBy : Refusal → Formula → Type 0
  LacksBy refusal model = (input : Input) × IsModelInput job is.0 model input × HasRecordsCause is.0 model job.coding input.design refusal

  -- the table, its formula and its design are those of the rows
  not_lacking : (refusal : Refusal) → ¬ LackPredictions job bytes refusal
  not_lacking refusal h =
      let lacks = subst (λ (t : Table). LacksPredictions job t refusal) (one_table one none job true bytes h.0 is.0 h.1 is.1) h.2 in
      let by : LacksBy refusal is.2.model =
      subst (LacksBy refusal) (one_formula one job.formula is.0.names lacks.model is.2.model lacks.by.stated.parsed is.2.by.stated.parsed) (lacks.input, lacks.by.is, lacks.cause) in
      let design = one_design is.0 is.2.model job.coding job.weights by.0.design asked.input.design by.1.designed is.2.by.is.designed in
      no_records_fault is.0 is.2.model job.coding asked.input.design asked.rows is.2.rows refusal
      (subst (λ (d : Design). HasRecordsCause is.0 is.2.model job.coding d refusal) design by.2)

  pub prediction_sound : (refusal : Refusal) → ¬ HasPredictionCause job bytes (Refused refusal)
  prediction_sound refusals.RankWithPenalty h = h
  prediction_sound refusals.NothingToPredict h = not_lacking refusals.NothingToPredict h
  prediction_sound (refusals.TooManyPredictions found) h = not_lacking (refusals.TooManyPredictions found) h
  prediction_sound (refusals.Design fault) (inl h) = no_plain_fault (refusals.Design fault) h
  prediction_sound (refusals.Design fault) (inr h) = not_lacking (refusals.Design fault) h
  prediction_sound other h = no_plain_fault other h

pub no_fault : OneFormula → NoFormulaHasFaults → PredictionsHaveNoFault
no_fault one none job bytes asked refusal is shaped = prediction_sound one none job bytes asked is shaped refusal
