use Rattle.design_matrix.proofs.Evaluable.{values_of_arithmetics}
use Rattle.design_matrix.proofs.laws.arithmetics_have_their_values.Goals as goal

pub returns : goal.returns
returns c = values_of_arithmetics
