use Rattle.run_laws.proofs.Plain.{no_fault}
use Rattle.run_laws.proofs.inputs.plain_inputs_have_no_fault.Goals as goal

pub returns : goal.returns
returns c = no_fault c.one_formula.ensures c.one_outcome.ensures.either
