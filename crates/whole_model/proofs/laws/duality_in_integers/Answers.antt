use Rattle.whole_model.proofs.Integers as law
use Rattle.whole_model.proofs.laws.duality_in_integers.Goals as goal

pub returns : goal.returns
returns c = record { minimum = law.minimum_of; mixed = law.mixed_of }
