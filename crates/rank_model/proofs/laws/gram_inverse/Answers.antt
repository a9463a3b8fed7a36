use Rattle.rank_model.proofs.Grams as law
use Rattle.rank_model.proofs.GramStarts.{starts_in_order}
use Rattle.rank_model.proofs.laws.gram_inverse.Goals as goal

pub returns : goal.returns
returns c = record { projects = law.projects; dependence = law.dependence; rank = law.keeps_rank; order = starts_in_order }
