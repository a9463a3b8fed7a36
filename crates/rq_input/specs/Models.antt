-- Stated. What a table and a formula say: the model, its design, what its smooths add, and the problem.
use Rattle.std.specs.Prelude.{◌≡◌, Bool, true, length, map}
use Rattle.frac_core.specs.declared.frac128.Frac128.{Frac128}
use Rattle.formula_parser.specs.Parsed.{IsParsed}
use Rattle.formula_parser.specs.declared.formula.Formula.{Formula}
use Rattle.design_matrix.specs.Cells.{Table}
use Rattle.design_matrix.specs.Faults.{IsDesign}
use Rattle.design_matrix.specs.declared.design.Design.{Design}
use Rattle.tv_penalty.specs.Faults.{IsSound}
use Rattle.tv_penalty.specs.Smoothings.{exact_smoothing, smoothing_by}
use Rattle.tv_penalty.specs.declared.Smoothing.{Smoothing}
use Rattle.rq_program.specs.Programs.{columns_of, rows_of}
use Rattle.loss_model.specs.declared.problem.Problem.{Problem}
use Rattle.loss_model.specs.Values.{exact_row}
use Rattle.rq_words.specs.declared.job.FitJob.{FitJob}

-- the formula of the job over the names of the table is this one; where ranks are asked for it has no smooths
pub record IsModel (job : FitJob) (ranked : Bool) (table : Table) (model : Formula) : Type 0 where
  pub parsed : IsParsed job.formula table.names model
  pub taken : ranked ≡ true → length model.smooths ≡ 0

-- the design of the table by the model, with the weights and the contrasts of the job
abbrev pub IsDesigned : FitJob → Table → Formula → Design → Type 0
IsDesigned job table model design = IsDesign table model job.coding job.weights design

-- this is what the model's smooths add to the design, and nothing is wrong with them
pub record IsSmoothed (table : Table) (model : Formula) (design : Design) (smoothing : Smoothing) : Type 0 where
  pub sound : IsSound true table design model
  pub added : exact_smoothing smoothing ≡ smoothing_by true table design model

-- the problem has the rows of both, with their costs
pub record IsProblemOf (design : Design) (smoothing : Smoothing) (problem : Problem Frac128) : Type 0 where
  pub columns : problem.columns ≡ columns_of design smoothing
  pub rows : map exact_row problem.rows ≡ rows_of design smoothing
