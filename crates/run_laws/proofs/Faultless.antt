-- Bytes that are an input have no fault.
use Rattle.std.proofs.Common.{◌≡◌, ◌≤◌, ℕ, Bool, true, List, Result, Ok, length, arith, sym, subst, ◌∙◌}
use Rattle.rational_laws.specs.Rational.{ℚ}
use Rattle.loss_model.specs.Problem.{IsWellShaped}
use Rattle.data_frame.specs.Tables.{TableOf, table_of}
use Rattle.data_frame.specs.Views.{exact_table}
use Rattle.data_frame.specs.declared.fault.TableFault.{TableFault}
use Rattle.formula_grammar.specs.Faults.{NoFormulaHasFaults}
use Rattle.formula_grammar.specs.Grammar.{OneFormula}
use Rattle.formula_parser.specs.declared.formula.Formula.{Formula}
use Rattle.design_matrix.specs.Cells.{Table}
use Rattle.design_matrix.specs.declared.design.Design.{Design}
use Rattle.rq_words.specs.declared.job.FitJob.{FitJob}
use Rattle.report_text.specs.declared.report.Refusal.{Refusal}
use Rattle.report_text.specs.declared.report.Refusal.TheVariants as refusals
use Rattle.report_text.specs.declared.report.Halt.TheVariants.{Refused}
use Rattle.tv_penalty.specs.Faults.{HasCause as HasPenaltyCause}
use Rattle.rq_program.specs.Faults.{HasCause as HasProgramCause}
use Rattle.design_matrix.specs.Faults.{HasCause as HasDesignCause}
use Rattle.rq_input.specs.Inputs.{AreTable, HasInputCause, HasTableCause, IsInput, IsModelInput, LacksProblem, LacksSmoothing}
use Rattle.rq_input.specs.Models.{IsModel, IsSmoothed}
use Rattle.rq_input.specs.declared.input.Input.{Input}
use Rattle.run_laws.proofs.Parsed.{no_fault, one_formula}
use Rattle.run_laws.proofs.Same.{same_table}
use Rattle.run_laws.proofs.Sound.{no_design_fault, no_penalty_fault, no_program_fault, one_design}

pub read_once : (r : Result (TableOf ℚ) TableFault) (a b : TableOf ℚ) → r ≡ Ok a → r ≡ Ok b → a ≡ b
read_once r a b h k = cc (sym h ∙ k)

module _ (one : OneFormula) (none : NoFormulaHasFaults) (job : FitJob) (ranked : Bool) where
  -- bytes are one table
  pub one_table : (bytes : List ℕ) (a b : Table) → AreTable bytes a → AreTable bytes b → a ≡ b
  one_table bytes a b h k = same_table a b (read_once (table_of bytes) (exact_table a) (exact_table b) h k)

  module _ (table : Table) (model : Formula) (stated : IsModel job ranked table model) (input : Input) (is : IsModelInput job table model input) (shaped : IsWellShaped input.problem) where
    -- the formula of the job is one
    same_model : (other : Formula) → IsModel job ranked table other → other ≡ model
    same_model other h = one_formula one job.formula table.names other model h.parsed stated.parsed

    sound : (refusal : Refusal) → HasTableCause job ranked table (Refused refusal) → ⊥
    sound (refusals.Formula fault) h = no_fault one job.formula table.names none model stated.parsed fault h.0 h.1
    sound refusals.RankWithPenalty h =
        let same = one_formula one job.formula table.names h.1.model model h.1.parsed stated.parsed in
        let smooth : 1 ≤ length model.smooths = subst (λ (m : Formula). 1 ≤ length m.smooths) same h.1.smooth in
        absurd (omega (arith, smooth, stated.taken h.0))
    sound (refusals.Design fault) h =
        no_design_fault table model job.coding job.weights input.design is.designed fault h.cause.0
        (subst (λ (m : Formula). HasDesignCause table m job.coding job.weights fault) (same_model h.model h.stated) h.cause.1)
    sound (refusals.Penalty fault) h = unsmoothed (subst (λ (m : Formula). LacksSmoothing job table m fault) (same_model h.model h.stated) h.cause)
      where
        unsmoothed : LacksSmoothing job table model fault → ⊥
        unsmoothed k =
            no_penalty_fault table input.design model is.smoothed.sound fault k.named
            (subst (λ (d : Design). HasPenaltyCause true table d model fault) (one_design table model job.coding job.weights k.design input.design k.designed is.designed) k.cause)
    sound (refusals.Program fault) h = unposed (subst (λ (m : Formula). LacksProblem job table m fault) (same_model h.model h.stated) h.cause)
      where
        unposed : LacksProblem job table model fault → ⊥
        unposed k =
            let same = one_design table model job.coding job.weights k.design input.design k.designed is.designed in
            no_program_fault table model input.design k.smoothing input.smoothing (subst (λ (d : Design). IsSmoothed table model d k.smoothing) same k.smoothed) is.smoothed input.problem is.problem shaped fault k.named
            (subst (λ (d : Design). HasProgramCause d k.smoothing fault) same k.cause)
    sound refusal h = h.cause

  pub input_sound : (bytes : List ℕ) (input : Input) → IsInput job ranked bytes input → IsWellShaped input.problem → (refusal : Refusal) → ¬ HasInputCause job ranked bytes (Refused refusal)
  input_sound bytes input is shaped refusal h = by refusal h
    where
      on_table : (refusal : Refusal) → (table : Table) × AreTable bytes table × HasTableCause job ranked table (Refused refusal) → ⊥
      on_table refusal k =
          sound is.0 is.2.model is.2.stated input is.2.is shaped refusal (subst (λ (t : Table). HasTableCause job ranked t (Refused refusal)) (one_table bytes k.0 is.0 k.1 is.1) k.2)

      by : (refusal : Refusal) → HasInputCause job ranked bytes (Refused refusal) → ⊥
      by refusals.TooLong k = k
      by (refusals.Table fault) k = absurd (cc (sym k ∙ is.1))
      by refusal k = on_table refusal k
