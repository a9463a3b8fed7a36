use Rattle.formula_grammar.proofs.WholeFormulas.{one_formula as law}
use Rattle.formula_grammar.proofs.laws.one_formula.Goals as goal

pub returns : goal.returns
returns c = law
