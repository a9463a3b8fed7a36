-- Stated. Scores and intervals whose printed numbers are in lowest terms.
use Rattle.loss_model.specs.declared.interval.Interval.{Interval}
use Rattle.ratio.specs.Lowest.{IsLowest}
use Rattle.rankscores.specs.declared.pair.ScorePair.{ScorePair}
use Rattle.cert_text.specs.Numbers.{BoundHas}

-- both scores of a row
pub record IsLowestPair (q : ScorePair) : Type 0 where
  pub at_lo : IsLowest q.at_lo
  pub at_hi : IsLowest q.at_hi

-- the quantile of an interval, and its ends
pub record IsLowestInterval (r : Interval) : Type 0 where
  pub tau : IsLowest r.tau
  pub low : BoundHas IsLowest r.low.bound
  pub high : BoundHas IsLowest r.high.bound
