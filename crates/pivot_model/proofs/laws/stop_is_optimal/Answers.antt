use Rattle.pivot_model.proofs.Optimal.{optimal}
use Rattle.pivot_model.proofs.laws.stop_is_optimal.Goals as goal

pub returns : goal.returns
returns c = λ p at a theta basis costs stop. optimal p at a basis theta costs stop
