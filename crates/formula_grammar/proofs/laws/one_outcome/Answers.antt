use Rattle.formula_grammar.proofs.Outcomes.{formula_or_fault, no_formula_has_faults, one_fault}
use Rattle.formula_grammar.proofs.laws.one_outcome.Goals as goal

pub returns-clause-some : goal.returns-clause-some
returns-clause-some c = formula_or_fault

pub returns-clause-fault : goal.returns-clause-fault
returns-clause-fault c = one_fault

pub returns-clause-either : goal.returns-clause-either
returns-clause-either c = no_formula_has_faults
