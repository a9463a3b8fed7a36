use Rattle.formula_parser.proofs.ArithTexts.{parts_are_arithmetics}
use Rattle.formula_parser.proofs.laws.parts_are_arithmetics.Goals as goal

pub returns : goal.returns
returns c = parts_are_arithmetics
