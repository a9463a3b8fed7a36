use Rattle.walk_model.proofs.Slopes.{optimal_to, none_before}
use Rattle.walk_model.proofs.Breaks.{next_break, as_computed}
use Rattle.walk_model.proofs.laws.between_breakpoints.Goals as goal

pub returns : goal.returns
returns c =
    record {
      next = next_break;
      computed = λ f at a from t j d stop lj. as_computed f at a from stop t j d lj;
      optimal = optimal_to;
      none = none_before;
    }
