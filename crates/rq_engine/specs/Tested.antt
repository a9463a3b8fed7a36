-- Stated. The right rank test of an input, and why there is none.
use Rattle.std.specs.Prelude.{◌≡◌, All, List, length, pos, slice_index, ⊤}
use Rattle.rational_laws.specs.Fraction.{Fraction, rational}
use Rattle.rational_laws.specs.Rational.{whole}
use Rattle.frac_core.specs.declared.frac128.Frac128.{Frac128}
use Rattle.frac_core.specs.Values.{value}
use Rattle.loss_model.specs.declared.problem.Problem.{Problem}
use Rattle.loss_model.specs.declared.process.Process.{Process}
use Rattle.loss_model.specs.FullRank.{HasFullRank}
use Rattle.loss_model.specs.Problem.{number_at, sample, IsWellShaped}
use Rattle.loss_model.specs.Segment.{Covers, segments_of}
use Rattle.loss_model.specs.StartStop.{IsDependent, IsStartSpill}
use Rattle.walk_model.specs.WalkTrails.{ReachesProcessLimit}
use Rattle.tau_process.specs.Stops.{IsProcessSpill}
use Rattle.ratio.specs.Lowest.{IsLowest}
use Rattle.rankscores.specs.Wilcoxon.{AreWilcoxon}
use Rattle.nested_test.specs.Nested.{column_score, AreScores, IsNestedStatistic}
use Rattle.nested_test.specs.Restricted.{restricted_problem}
use Rattle.rq_words.specs.declared.job.FitJob.{FitJob}
use Rattle.rq_words.specs.declared.job.TestJob.{TestJob}
use Rattle.report_text.specs.declared.report.TestFit.{TestFit}
use Rattle.report_text.specs.declared.report.Refusal.TheVariants.{Dependent}
use Rattle.report_text.specs.declared.report.Place.TheVariants as places
use Rattle.report_text.specs.declared.report.Halt.{Halt}
use Rattle.report_text.specs.declared.report.Halt.TheVariants.{Refused, OutOfMemory, PivotLimit, Overflow}
use Rattle.rq_input.specs.declared.input.Input.{Input}
use Rattle.rq_engine.specs.Fit.{IsRightProcess}
use Rattle.rq_engine.specs.Stops.{most}

-- the process is right for the problem, covers 0 to 1, and these are the Wilcoxon scores of the rows by it
pub record AreScoredBy (job : FitJob) (p : Problem Frac128) (q : Process) (wilcoxon : List Fraction) : Type 0 where
  pub process : IsRightProcess value job p q
  pub covers : Covers (length p.rows) (whole (pos 0)) (whole (pos 1)) (segments_of value p q.segments)
  pub scores : AreWilcoxon value p q.segments wilcoxon

-- the scores of the tested columns and the statistic, by these Wilcoxon scores, and all in lowest terms
pub record IsStatisticBy (job : TestJob) (p : Problem Frac128) (wilcoxon : List Fraction) (fit : TestFit) : Type 0 where
  pub scores : AreScores value p job.tested (number_at wilcoxon) fit.scores
  pub statistic : IsNestedStatistic (sample value p) (slice_index job.tested) (length job.tested) (column_score (sample value p) (number_at wilcoxon))
      (rational fit.statistic)
  pub lowest_scores : All IsLowest fit.scores
  pub lowest : IsLowest fit.statistic

-- of independent columns, the right process of the problem without the tested ones, and the scores of these and the
-- statistic by the Wilcoxon scores of that process; what is told beside is the design's and the job's
pub record IsTestFitOf (job : TestJob) (input : Input) (fit : TestFit) : Type 0 where
  pub kept : fit.kept ≡ length input.design.rows
  pub dropped : fit.dropped ≡ input.design.dropped
  pub names : fit.names ≡ input.design.names
  pub tested : fit.tested ≡ job.tested
  pub shaped : IsWellShaped input.problem
  pub rank : HasFullRank (sample value input.problem)
  pub wilcoxon : List Fraction
  pub scored : AreScoredBy job.fit (restricted_problem job.tested input.problem) fit.process wilcoxon
  pub statistic : IsStatisticBy job input.problem wilcoxon fit

-- ---- why there is none

-- why the problem without the tested columns has no process, and so no Wilcoxon scores: a limit that is reached, or an
-- operation that overflows. Want of memory is free of a cause; its columns are never dependent
abbrev pub HasScoredCause : FitJob → Problem Frac128 → Halt → Type 0
HasScoredCause job p OutOfMemory = ⊤
HasScoredCause job p (PivotLimit places.Process limit trail) =
    (limit ≡ job.limit) × ReachesProcessLimit (sample value p) (rational (value job.lo)) (rational (value job.hi)) job.limit trail
HasScoredCause job p (Overflow places.Process trail spill) =
    IsProcessSpill value most p (rational (value job.lo)) (rational (value job.hi)) job.limit trail spill
HasScoredCause job p halt = ⊥

-- why an input has no test: dependent columns, or an operation that overflows, in the start of its problem; or the problem
-- without the tested columns has no process. A limit is reached only where the columns are independent
abbrev pub HasTestCause : TestJob → Input → Halt → Type 0
HasTestCause job input (Refused (Dependent combination)) = IsDependent value input.problem combination
HasTestCause job input (Overflow places.Full trail spill) = IsStartSpill value most input.problem trail spill
HasTestCause job input (PivotLimit place limit trail) =
    HasFullRank (sample value input.problem) × HasScoredCause job.fit (restricted_problem job.tested input.problem) (PivotLimit place limit trail)
HasTestCause job input halt = HasScoredCause job.fit (restricted_problem job.tested input.problem) halt
