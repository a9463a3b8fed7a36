-- Law. What a printed rank test says.
use Rattle.std.specs.Prelude.{ℕ, List, length, pos, slice_index}
use Rattle.rational_laws.specs.Fraction.{Fraction, rational}
use Rattle.rational_laws.specs.Rational.{whole, ◌≤ℚ◌}
use Rattle.frac_core.specs.Values.{value}
use Rattle.loss_model.specs.Problem.{sample, number_at}
use Rattle.nested_test.specs.Nested.{column_score, AreScores, IsNestedStatistic}
use Rattle.nested_test.specs.Restricted.{restricted_problem}
use Rattle.rq_words.specs.declared.job.Job.TheVariants as jobs
use Rattle.rq_words.specs.declared.job.TestJob.{TestJob}
use Rattle.report_text.specs.declared.report.TestFit.{TestFit}
use Rattle.report_text.specs.declared.report.Report.TheVariants as reports
use Rattle.rq_input.specs.Tested.{IsTested}
use Rattle.rq_input.specs.declared.input.Input.{Input}
use Rattle.rq_engine.specs.Tested.{AreScoredBy}
use Rattle.rq_cli.specs.Outcomes.{IsRun, Stream, WereRead}
use Rattle.rq_cli.specs.declared.outcome.Outcome.TheVariants.{Done}

-- its process is right for the problem without the tested columns, and by the Wilcoxon scores of that its scores are those
-- of the tested columns and its statistic is that of the nested models, which is not negative
pub record IsRightTest (job : TestJob) (input : Input) (fit : TestFit) : Type 0 where
  pub wilcoxon : List Fraction
  pub scored : AreScoredBy job.fit (restricted_problem job.tested input.problem) fit.process wilcoxon
  pub scores : AreScores value input.problem job.tested (number_at wilcoxon) fit.scores
  pub statistic : IsNestedStatistic (sample value input.problem) (slice_index job.tested) (length job.tested)
      (column_score (sample value input.problem) (number_at wilcoxon)) (rational fit.statistic)
  pub sign : whole (pos 0) ≤ℚ rational fit.statistic

-- a printed test is such a one of the input that the bytes are
abbrev pub TestIsRight : Type 0
TestIsRight =
    (words : List (List ℕ)) (source source' out out' err err' : Stream) (fit : TestFit)
    → IsRun words source source' out out' err err' (Done (reports.Test fit))
    → (job : TestJob) × (bytes : List ℕ) × (input : Input) × WereRead words source source' (jobs.Test job) bytes × IsTested job bytes input
    × IsRightTest job input fit
