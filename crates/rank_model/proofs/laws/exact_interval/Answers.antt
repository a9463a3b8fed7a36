use Rattle.rank_model.proofs.Exact as law
use Rattle.rank_model.proofs.laws.exact_interval.Goals as goal

pub returns : goal.returns
returns c = record { exact = law.exact; order = law.in_order }
