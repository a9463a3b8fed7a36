-- Law. What the problem of an input loses, in the subject's words.
use Rattle.std.specs.Prelude.{◌≡◌, ℕ, Bool, zip}
use Rattle.rational_laws.specs.Rational.{ℚ, ◌+ℚ◌}
use Rattle.frac_core.specs.Values.{value}
use Rattle.loss_model.specs.Problem.{sample}
use Rattle.loss_model.specs.Sample.{loss}
use Rattle.formula_parser.specs.declared.formula.Formula.{Formula}
use Rattle.design_matrix.specs.Cells.{Table}
use Rattle.tv_penalty.specs.Variation.{variation}
use Rattle.rq_program.specs.Losses.{records_loss, smooth_part}
use Rattle.rq_words.specs.declared.job.FitJob.{FitJob}
use Rattle.rq_input.specs.Inputs.{IsModelInput}
use Rattle.rq_input.specs.Models.{IsModel}
use Rattle.rq_input.specs.Rows.{HasRows}
use Rattle.rq_input.specs.declared.input.Input.{Input}

-- the weighted check loss of the records, and for each smooth lambda times the total variation of the slope of the
-- piecewise linear function through its knots
abbrev pub LossIsVariation : Type 0
LossIsVariation =
    (job : FitJob) (ranked : Bool) (table : Table) (model : Formula) (input : Input) (theta : ℚ) (b : ℕ → ℚ)
    → IsModel job ranked table model → IsModelInput job table model input → HasRows input
    → loss (sample value input.problem) theta b
    ≡ records_loss (zip input.design.rows input.smoothing.columns) theta b (smooth_part input.design b)
    +ℚ variation table input.design model (smooth_part input.design b)
