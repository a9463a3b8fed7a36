use Rattle.pivot_laws.proofs.Chosen as law
use Rattle.pivot_laws.proofs.laws.at_most_choose.Goals as goal

pub returns : goal.returns
returns c = law.at_most_choose
