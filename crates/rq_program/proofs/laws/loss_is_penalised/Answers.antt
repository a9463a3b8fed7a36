use Rattle.rq_program.proofs.Losses.{loss_is_penalised}
use Rattle.rq_program.proofs.laws.loss_is_penalised.Goals as goal

pub returns : goal.returns
returns c = loss_is_penalised
