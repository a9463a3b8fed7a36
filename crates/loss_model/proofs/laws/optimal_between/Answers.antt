use Rattle.loss_model.proofs.Mixes as law
use Rattle.loss_model.proofs.Intervals.{mixes}
use Rattle.loss_model.proofs.laws.optimal_between.Goals as goal

pub returns : goal.returns
returns c = record { mixed = law.mixed; every = mixes; minimum = law.minimum_between }
