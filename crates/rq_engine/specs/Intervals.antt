-- Stated. The rank intervals that a job asks for.
use Rattle.std.specs.Prelude.{ℕ, List, [], Option, None, Some}
use Rattle.frac_core.specs.declared.frac128.Frac128.{Frac128}
use Rattle.rank_inversion.specs.declared.column_test.Asked.{Asked}
use Rattle.rq_words.specs.declared.job.RankAsk.{RankAsk}
pub use Rattle.rank_inversion.specs.Intervals.{HasFactors}
pub use Rattle.rank_inversion.specs.AllIntervals.{AreRightIntervals, asked_at, asked_over, IsFirstStop, IsRightInterval}

-- what a job asks of a problem of n columns: nothing without a critical value and quantiles
abbrev pub asked_by : Option RankAsk → ℕ → List (Asked Frac128)
asked_by None n = []
asked_by (Some rank) n = asked_over rank.crit n rank.taus
