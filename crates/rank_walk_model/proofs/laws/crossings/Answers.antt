use Rattle.rank_walk_model.proofs.Crossings.{by_entry}
use Rattle.rank_walk_model.proofs.laws.crossings.Goals as goal

pub returns : goal.returns
returns c = by_entry
