use Rattle.rank_walk_model.proofs.Walks as law
use Rattle.rank_walk_model.proofs.laws.walks.Goals as goal

pub returns : goal.returns
returns c =
    record {
      first = law.stands_first;
      next = law.stands_next;
      inside = law.inside;
      goes_on = law.goes_on;
      finite = law.ends_here;
      infinite = law.never_ends;
      exact = law.are_exact;
    }
