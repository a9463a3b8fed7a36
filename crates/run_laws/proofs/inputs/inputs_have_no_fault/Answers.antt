use Rattle.run_laws.proofs.Faultless.{input_sound}
use Rattle.run_laws.proofs.inputs.inputs_have_no_fault.Goals as goal

pub returns : goal.returns
returns c = λ job ranked bytes input refusal is shaped. input_sound c.one_formula.ensures c.one_outcome.ensures.either job ranked bytes input is shaped refusal
