use Rattle.rank_model.proofs.Exact as law
use Rattle.rank_model.proofs.Shown as shown
use Rattle.rank_model.proofs.laws.shown_interval.Goals as goal

pub returns : goal.returns
returns c = record { beyond = law.nothing_beyond; within = law.all_within; high = shown.high; low = shown.low }
