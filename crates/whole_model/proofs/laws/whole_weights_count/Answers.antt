use Rattle.whole_model.proofs.Repetitions.{whole_weights}
use Rattle.whole_model.proofs.laws.whole_weights_count.Goals as goal

pub returns : goal.returns
returns c = whole_weights
