-- Stated. What the bytes of a job say, and why they say nothing that can be fitted.
use Rattle.std.specs.Prelude.{◌≡◌, ◌≢◌, ◌≤◌, ℕ, Bool, true, List, Ok, Err, length, ⊤}
use Rattle.data_frame.specs.Tables.{table_of}
use Rattle.data_frame.specs.Views.{exact_table}
use Rattle.formula_parser.specs.Parsed.{IsFault, IsParsed}
use Rattle.formula_parser.specs.declared.formula.Formula.{Formula}
use Rattle.formula_parser.specs.declared.fault.FormulaFault.TheVariants as formulas
use Rattle.design_matrix.specs.Cells.{Table}
use Rattle.design_matrix.specs.Faults.{HasCause as HasDesignCause}
use Rattle.design_matrix.specs.declared.design.Design.{Design}
use Rattle.design_matrix.specs.declared.fault.DesignFault.TheVariants as designs
use Rattle.tv_penalty.specs.Faults.{HasCause as HasPenaltyCause}
use Rattle.tv_penalty.specs.declared.Smoothing.{Smoothing}
use Rattle.tv_penalty.specs.declared.fault.PenaltyFault.{PenaltyFault}
use Rattle.tv_penalty.specs.declared.fault.PenaltyFault.TheVariants as penalties
use Rattle.rq_program.specs.Faults.{HasCause as HasProgramCause}
use Rattle.rq_program.specs.declared.fault.ProgramFault.{ProgramFault}
use Rattle.rq_program.specs.declared.fault.ProgramFault.TheVariants as programs
use Rattle.rq_words.specs.declared.job.FitJob.{FitJob}
use Rattle.report_text.specs.declared.report.Refusal.TheVariants as refusals
use Rattle.report_text.specs.declared.report.Halt.{Halt}
use Rattle.report_text.specs.declared.report.Halt.TheVariants.{Refused, OutOfMemory}
use Rattle.rq_input.specs.Models.{IsDesigned, IsModel, IsProblemOf, IsSmoothed}
use Rattle.rq_input.specs.declared.input.Input.{Input}

-- ---- the input

-- the input has the design of the table by the model and the weights of the job, what its smooths add, and the
-- problem of both
pub record IsModelInput (job : FitJob) (table : Table) (model : Formula) (input : Input) : Type 0 where
  pub designed : IsDesigned job table model input.design
  pub smoothed : IsSmoothed table model input.design input.smoothing
  pub problem : IsProblemOf input.design input.smoothing input.problem

-- it is that of the formula of the job, which has no smooths where ranks are asked for
pub record IsTableInput (job : FitJob) (ranked : Bool) (table : Table) (input : Input) : Type 0 where
  pub model : Formula
  pub stated : IsModel job ranked table model
  pub is : IsModelInput job table model input

-- the bytes are this table
abbrev pub AreTable : List ℕ → Table → Type 0
AreTable bytes table = table_of bytes ≡ Ok (exact_table table)

-- the bytes are a table with this input
abbrev pub IsInput : FitJob → Bool → List ℕ → Input → Type 0
IsInput job ranked bytes input = (table : Table) × AreTable bytes table × IsTableInput job ranked table input

-- ---- why there is none

-- the formula of the job has a smooth
pub record HasSmooth (job : FitJob) (table : Table) : Type 0 where
  pub model : Formula
  pub parsed : IsParsed job.formula table.names model
  pub smooth : 1 ≤ length model.smooths

-- the smooths of the model add nothing to its design, for this fault
pub record LacksSmoothing (job : FitJob) (table : Table) (model : Formula) (fault : PenaltyFault) : Type 0 where
  pub design : Design
  pub designed : IsDesigned job table model design
  pub named : fault ≢ penalties.OutOfMemory
  pub cause : HasPenaltyCause true table design model fault

-- the design has no problem with what the smooths add, for this fault
pub record LacksProblem (job : FitJob) (table : Table) (model : Formula) (fault : ProgramFault) : Type 0 where
  pub design : Design
  pub smoothing : Smoothing
  pub designed : IsDesigned job table model design
  pub smoothed : IsSmoothed table model design smoothing
  pub named : fault ≢ programs.OutOfMemory
  pub cause : HasProgramCause design smoothing fault

-- why a model has no problem: its design, what its smooths add, or the problem itself. Want of memory is free of a
-- cause
abbrev pub HasModelCause : FitJob → Table → Formula → Halt → Type 0
HasModelCause job table model (Refused (refusals.Design fault)) =
    (fault ≢ designs.OutOfMemory) × HasDesignCause table model job.coding job.weights fault
HasModelCause job table model (Refused (refusals.Penalty fault)) = LacksSmoothing job table model fault
HasModelCause job table model (Refused (refusals.Program fault)) = LacksProblem job table model fault
HasModelCause job table model OutOfMemory = ⊤
HasModelCause job table model halt = ⊥

-- the model of the job's formula has no problem, for this halt
pub record LacksModelInput (job : FitJob) (ranked : Bool) (table : Table) (halt : Halt) : Type 0 where
  pub model : Formula
  pub stated : IsModel job ranked table model
  pub cause : HasModelCause job table model halt

-- why a table has no problem: the formula, a smooth where ranks are asked for, or the model
abbrev pub HasTableCause : FitJob → Bool → Table → Halt → Type 0
HasTableCause job ranked table (Refused (refusals.Formula fault)) = (fault ≢ formulas.OutOfMemory) × IsFault job.formula table.names fault
HasTableCause job ranked table (Refused refusals.RankWithPenalty) = (ranked ≡ true) × HasSmooth job table
HasTableCause job ranked table OutOfMemory = ⊤
HasTableCause job ranked table halt = LacksModelInput job ranked table halt

-- why bytes have no problem: the first fault of a table, or they are a table that has none
abbrev pub HasInputCause : FitJob → Bool → List ℕ → Halt → Type 0
HasInputCause job ranked bytes (Refused refusals.TooLong) = ⊥
HasInputCause job ranked bytes (Refused (refusals.Table fault)) = table_of bytes ≡ Err fault
HasInputCause job ranked bytes OutOfMemory = ⊤
HasInputCause job ranked bytes halt = (table : Table) × AreTable bytes table × HasTableCause job ranked table halt
