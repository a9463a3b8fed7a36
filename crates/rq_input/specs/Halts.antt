-- Inner. The halts of an input's faults: want of memory is its own.
use Rattle.data_frame.specs.declared.fault.TableFault.{TableFault}
use Rattle.data_frame.specs.declared.fault.TableFault.TheVariants as tables
use Rattle.formula_parser.specs.declared.fault.FormulaFault.{FormulaFault}
use Rattle.formula_parser.specs.declared.fault.FormulaFault.TheVariants as formulas
use Rattle.design_matrix.specs.declared.fault.DesignFault.{DesignFault}
use Rattle.design_matrix.specs.declared.fault.DesignFault.TheVariants as designs
use Rattle.tv_penalty.specs.declared.fault.PenaltyFault.{PenaltyFault}
use Rattle.tv_penalty.specs.declared.fault.PenaltyFault.TheVariants as penalties
use Rattle.rq_program.specs.declared.fault.ProgramFault.{ProgramFault}
use Rattle.rq_program.specs.declared.fault.ProgramFault.TheVariants as programs
use Rattle.report_text.specs.declared.report.Refusal.TheVariants.{Table, Formula, Design, Penalty, Program}
use Rattle.report_text.specs.declared.report.Halt.{Halt}
use Rattle.report_text.specs.declared.report.Halt.TheVariants.{Refused, OutOfMemory}

-- the halt of a faulty table
abbrev pub table_halt : TableFault → Halt
table_halt tables.OutOfMemory = OutOfMemory
table_halt fault = Refused (Table fault)

-- that of a faulty formula
abbrev pub formula_halt : FormulaFault → Halt
formula_halt formulas.OutOfMemory = OutOfMemory
formula_halt fault = Refused (Formula fault)

-- that of a table without a design
abbrev pub design_halt : DesignFault → Halt
design_halt designs.OutOfMemory = OutOfMemory
design_halt fault = Refused (Design fault)

-- that of smooths that add nothing to a design
abbrev pub penalty_halt : PenaltyFault → Halt
penalty_halt penalties.OutOfMemory = OutOfMemory
penalty_halt fault = Refused (Penalty fault)

-- that of a design without a problem
abbrev pub program_halt : ProgramFault → Halt
program_halt programs.OutOfMemory = OutOfMemory
program_halt fault = Refused (Program fault)
