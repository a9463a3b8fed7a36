use Rattle.formula_grammar.proofs.Values.{one_is}
use Rattle.formula_grammar.proofs.token.one.Goals as goal

pub returns-clause-fraction : goal.returns-clause-fraction
returns-clause-fraction c = one_is c.one.result c.one.ensures
