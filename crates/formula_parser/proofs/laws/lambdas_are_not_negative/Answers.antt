use Rattle.formula_parser.proofs.Lambdas.{lambdas_not_negative}
use Rattle.formula_parser.proofs.laws.lambdas_are_not_negative.Goals as goal

pub returns : goal.returns
returns c = lambdas_not_negative
