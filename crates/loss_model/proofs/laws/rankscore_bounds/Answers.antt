use Rattle.loss_model.proofs.Rankscores.{bounded}
use Rattle.loss_model.proofs.laws.rankscore_bounds.Goals as goal

pub returns : goal.returns
returns c = bounded
