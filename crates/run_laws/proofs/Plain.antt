-- Bytes that are an input without smooths have no fault where none are taken.
use Rattle.std.proofs.Common.{ℕ, true, List, refl}
use Rattle.loss_model.specs.Problem.{IsWellShaped}
use Rattle.formula_grammar.specs.Faults.{NoFormulaHasFaults}
use Rattle.formula_grammar.specs.Grammar.{OneFormula}
use Rattle.rq_words.specs.declared.job.FitJob.{FitJob}
use Rattle.report_text.specs.declared.report.Refusal.{Refusal}
use Rattle.report_text.specs.declared.report.Refusal.TheVariants as refusals
use Rattle.report_text.specs.declared.report.Halt.TheVariants.{Refused}
use Rattle.rq_input.specs.Inputs.{IsInput}
use Rattle.rq_input.specs.Plain.{HasPlainCause}
use Rattle.rq_input.specs.declared.input.Input.{Input}
use Rattle.run_laws.specs.Faults.{PlainInputsHaveNoFault}
use Rattle.run_laws.proofs.Faultless.{input_sound}

module _ (one : OneFormula) (none : NoFormulaHasFaults) (job : FitJob) (bytes : List ℕ) (input : Input) (is : IsInput job true bytes input) (shaped : IsWellShaped input.problem) where
  pub plain_sound : (refusal : Refusal) → ¬ HasPlainCause job bytes (Refused refusal)
  plain_sound refusals.SmoothNotTaken h = input_sound one none job true bytes input is shaped refusals.RankWithPenalty (h.0, h.1, (refl, h.2))
  plain_sound refusals.RankWithPenalty h = h
  plain_sound other h = input_sound one none job true bytes input is shaped other h

pub no_fault : OneFormula → NoFormulaHasFaults → PlainInputsHaveNoFault
no_fault one none job bytes input refusal is shaped = plain_sound one none job bytes input is shaped refusal
