use Rattle.run_laws.proofs.Predictions.{no_fault}
use Rattle.run_laws.proofs.inputs.predictions_have_no_fault.Goals as goal

pub returns : goal.returns
returns c = no_fault c.one_formula.ensures c.one_outcome.ensures.either
