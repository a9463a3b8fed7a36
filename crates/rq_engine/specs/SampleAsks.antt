-- Inner. What is known of a generated table that words ask for.
use Rattle.std.specs.Prelude.{◌≤◌}
use Rattle.frac_core.specs.Limits.{most_rows}
use Rattle.rq_words.specs.declared.job.SampleJob.{SampleJob}
use Rattle.rq_engine.specs.Asks.{IsFitAsk}
use Rattle.rq_engine.specs.Jobs.{sample_fit}

-- its range lies in 0 to 1, and it is no larger than tables that are made
pub record IsSampleAsk (job : SampleJob) : Type 0 where
  pub ask : IsFitAsk (sample_fit job)
  pub rows : job.rows ≤ most_rows
  pub columns : job.columns ≤ 100
