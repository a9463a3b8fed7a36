use Rattle.loss_model.proofs.Starts.{one_start}
use Rattle.loss_model.proofs.laws.one_greedy_start.Goals as goal

pub returns : goal.returns
returns c = one_start
