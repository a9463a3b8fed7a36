-- Stated. What the bytes of a job say where no smooths are taken, and why they say nothing that can be fitted.
use Rattle.std.specs.Prelude.{◌≡◌, ℕ, true, List}
use Rattle.formula_parser.specs.declared.formula.Formula.{Formula}
use Rattle.design_matrix.specs.Cells.{Table}
use Rattle.rq_words.specs.declared.job.FitJob.{FitJob}
use Rattle.report_text.specs.declared.report.Refusal.TheVariants as refusals
use Rattle.report_text.specs.declared.report.Halt.{Halt}
use Rattle.report_text.specs.declared.report.Halt.TheVariants.{Refused}
use Rattle.rq_input.specs.Inputs.{AreTable, HasInputCause, HasSmooth, HasTableCause, IsModelInput}
use Rattle.rq_input.specs.Models.{IsModel}
use Rattle.rq_input.specs.declared.input.Input.{Input}
use Rattle.rq_input.specs.declared.plain.PlainInput.{PlainInput}

-- the model is that of the formula of the job, which has no smooths, and this is the input by it
pub record IsPlainModel (job : FitJob) (table : Table) (model : Formula) (input : Input) : Type 0 where
  pub stated : IsModel job true table model
  pub is : IsModelInput job table model input

-- the input of the bytes, and whether its formula has an intercept
pub record IsPlainTable (job : FitJob) (table : Table) (plain : PlainInput) : Type 0 where
  pub model : Formula
  pub by : IsPlainModel job table model plain.input
  pub intercept : plain.intercept ≡ model.intercept

abbrev pub IsPlain : FitJob → List ℕ → PlainInput → Type 0
IsPlain job bytes plain = (table : Table) × AreTable bytes table × IsPlainTable job table plain

-- why a table has none: its formula has a smooth, or it has no input
abbrev pub HasPlainTableCause : FitJob → Table → Halt → Type 0
HasPlainTableCause job table (Refused refusals.SmoothNotTaken) = HasSmooth job table
HasPlainTableCause job table (Refused refusals.RankWithPenalty) = ⊥
HasPlainTableCause job table halt = HasTableCause job true table halt

-- why bytes have none
abbrev pub HasPlainCause : FitJob → List ℕ → Halt → Type 0
HasPlainCause job bytes (Refused refusals.SmoothNotTaken) = (table : Table) × AreTable bytes table × HasSmooth job table
HasPlainCause job bytes (Refused refusals.RankWithPenalty) = ⊥
HasPlainCause job bytes halt = HasInputCause job true bytes halt
