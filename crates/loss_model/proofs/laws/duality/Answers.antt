use Rattle.loss_model.proofs.Duality as law
use Rattle.loss_model.proofs.laws.duality.Goals as goal

pub returns : goal.returns
returns c = record { weak = law.weak; minimum = law.minimum; greatest = law.greatest }
