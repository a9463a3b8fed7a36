use Rattle.loss_model.proofs.Covers.{every}
use Rattle.loss_model.proofs.laws.covers_every_value.Goals as goal

pub returns : goal.returns
returns c = every
