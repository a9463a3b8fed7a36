-- What has no smooths is an input, as where ranks are asked for.
use Rattle.std.proofs.Common.{◌≡◌, ℕ, true, List, length, refl}
use Rattle.formula_parser.specs.declared.formula.Formula.{Formula}
use Rattle.design_matrix.specs.Cells.{Table}
use Rattle.rq_words.specs.declared.job.FitJob.{FitJob}
use Rattle.rq_input.specs.Inputs.{AreTable, IsInput}
use Rattle.rq_input.specs.Plain.{IsPlainModel}
use Rattle.rq_input.specs.declared.input.Input.{Input}
use Rattle.rq_input.proofs.Inputs.{no_rows}

module _ (job : FitJob) (table : Table) (model : Formula) (input : Input) (by : IsPlainModel job table model input) where
  pub plain_input : (bytes : List ℕ) → AreTable bytes table → IsInput job true bytes input
  plain_input bytes are = (table, are, record { model = model; stated = by.stated; is = by.is })

  -- and no penalty rows
  pub plain_rows : length input.smoothing.rows ≡ 0
  plain_rows = no_rows table input.design model input.smoothing by.is.smoothed.added (by.stated.taken refl)
