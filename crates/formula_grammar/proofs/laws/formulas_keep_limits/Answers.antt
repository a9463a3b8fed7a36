use Rattle.formula_grammar.proofs.Outcomes.{keeps_limits}
use Rattle.formula_grammar.proofs.laws.formulas_keep_limits.Goals as goal

pub returns : goal.returns
returns c = keeps_limits
