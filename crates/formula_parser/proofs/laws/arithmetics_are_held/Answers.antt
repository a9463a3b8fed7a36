use Rattle.formula_parser.proofs.Held.{arithmetics_held}
use Rattle.formula_parser.proofs.laws.arithmetics_are_held.Goals as goal

pub returns : goal.returns
returns c = arithmetics_held
