use Rattle.rank_model.proofs.Exact as law
use Rattle.rank_model.proofs.laws.walks_of_intervals.Goals as goal

pub returns : goal.returns
returns c =
    record {
      bound = law.bound_not_negative;
      solved = law.fit_is_inside;
      begins = law.begins;
      rises = law.rises;
      falls = law.sinks;
      endless = law.endless;
      endless_below = law.endless_below;
    }
