use Rattle.formula_grammar.proofs.Values.{zero_is}
use Rattle.formula_grammar.proofs.token.zero.Goals as goal

pub returns-clause-fraction : goal.returns-clause-fraction
returns-clause-fraction c = zero_is c.zero.result c.zero.ensures
