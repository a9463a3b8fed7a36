use Rattle.run_laws.proofs.OneFault.{one_fault}
use Rattle.run_laws.proofs.inputs.one_input_fault.Goals as goal

pub returns : goal.returns
returns c = one_fault c.one_formula.ensures c.one_outcome.ensures.fault c.one_outcome.ensures.either
