-- Inner. The rows of predicted records, step by step.
use Rattle.std.specs.Prelude.{◌≡◌, ◌⊎◌, ℕ, Option, length, ⊤}
use Rattle.contrasts.specs.declared.Coding.{Coding}
use Rattle.data_frame.specs.Records.{Text}
use Rattle.formula_parser.specs.declared.formula.Formula.{Formula}
use Rattle.design_matrix.specs.Cells.{Table}
use Rattle.design_matrix.specs.Faults.{IsDesign}
use Rattle.design_matrix.specs.Predicted.{IsPredictRow, kept_in}
use Rattle.design_matrix.specs.declared.design.Design.{Design}
use Rattle.design_matrix.specs.declared.design.PredictRow.{PredictRow}
use Rattle.design_matrix.specs.declared.fault.DesignFault.{DesignFault}
use Rattle.design_matrix.specs.declared.fault.DesignFault.TheVariants as designs
use Rattle.report_text.specs.declared.report.Halt.{Halt}
use Rattle.report_text.specs.declared.report.Halt.TheVariants.{Refused, OutOfMemory}
use Rattle.rq_input.specs.Buildable.{IsBuildable}
use Rattle.rq_input.specs.Predictions.{HasRecordsCause, LacksRow}

-- the design is that of the table by a model without smooths that was read for its names
pub record Modelled (table : Table) (model : Formula) (coding : Coding) (design : Design) : Type 0 where
  pub buildable : IsBuildable table.names model
  pub weights : Option Text
  pub built : IsDesign table model coding weights design
  pub plain : length model.smooths ≡ 0

-- the row of a record, with an entry for each column of the design
pub record HasRow (table : Table) (model : Formula) (coding : Coding) (design : Design) (rec : ℕ) (row : PredictRow) : Type 0 where
  pub is : IsPredictRow table model coding (kept_in design) rec row
  pub wide : length row.x ≡ length design.names

-- a record has no row for this fault, or memory ended
abbrev pub LacksRowOf : Table → Formula → Coding → Design → DesignFault → Type 0
LacksRowOf table model coding design fault = (fault ≡ designs.OutOfMemory) ⊎ LacksRow table model coding design fault

-- why there are no rows; want of memory is free of a cause
abbrev pub HasRowsCause : Table → Formula → Coding → Design → Halt → Type 0
HasRowsCause table model coding design (Refused refusal) = HasRecordsCause table model coding design refusal
HasRowsCause table model coding design OutOfMemory = ⊤
HasRowsCause table model coding design halt = ⊥
