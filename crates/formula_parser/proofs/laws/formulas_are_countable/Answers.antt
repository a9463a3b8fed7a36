use Rattle.formula_parser.proofs.Counting.{formulas_countable}
use Rattle.formula_parser.proofs.laws.formulas_are_countable.Goals as goal

pub returns : goal.returns
returns c = formulas_countable
