-- Bytes that are the input of a rank test have no fault.
use Rattle.std.proofs.Common.{◌≡◌, ◌<◌, ℕ, suc, Bool, true, false, if◌then◌else◌, List, [], ◌∷◌, Option, None, Some, All, nat_le, arith, refl, sym, ap, subst, ◌∙◌}
use Rattle.std.proofs.lemmas.Bool.{leb-true}
use Rattle.loss_model.specs.Problem.{IsWellShaped}
use Rattle.formula_grammar.specs.Faults.{NoFormulaHasFaults}
use Rattle.formula_grammar.specs.Grammar.{OneFormula}
use Rattle.formula_parser.specs.declared.formula.Formula.{Formula}
use Rattle.design_matrix.specs.Cells.{Table}
use Rattle.design_matrix.specs.declared.design.Design.{Design}
use Rattle.rq_program.specs.Programs.{columns_of}
use Rattle.rq_words.specs.Requests.{given_number}
use Rattle.rq_words.specs.declared.job.TestJob.{TestJob}
use Rattle.report_text.specs.declared.report.Refusal.{Refusal}
use Rattle.report_text.specs.declared.report.Refusal.TheVariants as refusals
use Rattle.report_text.specs.declared.report.Halt.TheVariants.{Refused}
use Rattle.rq_input.specs.Inputs.{IsInput, IsModelInput, IsTableInput}
use Rattle.rq_input.specs.Models.{IsSmoothed}
use Rattle.rq_input.specs.Tested.{HasTestedCause, IsTested, first_missing}
use Rattle.rq_input.specs.declared.input.Input.{Input}
use Rattle.run_laws.specs.Faults.{TestedHaveNoFault}
use Rattle.run_laws.proofs.Faultless.{input_sound, one_table}
use Rattle.run_laws.proofs.Parsed.{one_formula}
use Rattle.run_laws.proofs.Sound.{as_many_columns, one_design}

-- ---- columns that there are

module _ (columns : ℕ) where
  step : (k : ℕ) (rest : Option ℕ) → k < columns → rest ≡ None → (b : Bool) → nat_le columns k ≡ b → (if b then Some (given_number k) else rest) ≡ None
  step k rest within none true e = absurd (omega (arith, within, leb-true columns k e))
  step k rest within none false e = none

  none_missing : (tested : List ℕ) → All (λ k. k < columns) tested → first_missing columns tested ≡ None
  none_missing [] all = refl
  none_missing (k ∷ ks) all = step k (first_missing columns ks) (all 0 k (omega arith)) (none_missing ks (λ j d l. all (suc j) d (omega (arith, l)))) (nat_le columns k) refl

-- ---- the bytes

module _ (one : OneFormula) (none : NoFormulaHasFaults) (job : TestJob) (bytes : List ℕ) (input : Input) (is : IsTested job bytes input) (shaped : IsWellShaped input.problem) where
  abbrev table : Table
  table = is.is.0

  abbrev model : Formula
  model = is.is.2.model

  by_model : (other : Input) → IsModelInput job.fit table model other → other.problem.columns ≡ input.problem.columns
  by_model other k =
      let here = is.is.2.is in
      let design = one_design table model job.fit.coding job.fit.weights other.design input.design k.designed here.designed in
      let smoothed = subst (λ (d : Design). IsSmoothed table model d other.smoothing) design k.smoothed in
      k.problem.columns ∙ ap (λ d. columns_of d other.smoothing) design ∙ as_many_columns table model input.design other.smoothing input.smoothing smoothed here.smoothed
      ∙ sym here.problem.columns

  -- an input of the bytes has as many columns
  same_columns : (other : Input) → IsInput job.fit true bytes other → other.problem.columns ≡ input.problem.columns
  same_columns other h =
      let at = subst (λ (t : Table). IsTableInput job.fit true t other) (one_table one none job.fit true bytes h.0 table h.1 is.is.1) h.2 in
      by_model other (subst (λ (m : Formula). IsModelInput job.fit table m other) (one_formula one job.fit.formula table.names at.model model at.stated.parsed is.is.2.stated.parsed) at.is)

  not_missing : (number : ℕ) (other : Input) → IsInput job.fit true bytes other → first_missing other.problem.columns job.tested ≡ Some number → ⊥
  not_missing number other h missing =
      absurd (cc (sym (none_missing input.problem.columns job.tested is.columns.within) ∙ sym (ap (λ n. first_missing n job.tested) (same_columns other h)) ∙ missing))

  tested_sound : (refusal : Refusal) → ¬ HasTestedCause job bytes (Refused refusal)
  tested_sound (refusals.NoSuchColumn number) h = not_missing number h.input h.is h.cause
  tested_sound refusals.AllTested h = let same = same_columns h.input h.is in absurd (omega (arith, is.columns.left, h.cause.all, same))
  tested_sound refusal h = input_sound one none job.fit true bytes input is.is shaped refusal h

pub no_fault : OneFormula → NoFormulaHasFaults → TestedHaveNoFault
no_fault one none job bytes input refusal is shaped = tested_sound one none job bytes input is shaped refusal
