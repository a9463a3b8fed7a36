use Rattle.rank_model.proofs.Optimal as law
use Rattle.rank_model.proofs.laws.optimal_values.Goals as goal

pub returns : goal.returns
returns c = record { complementary = law.complementary; falls = law.falls; between = law.optimal_between }
