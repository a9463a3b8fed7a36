-- Inner. Why rank intervals that a job asks for are not made.
use Rattle.std.specs.Prelude.{⊤}
use Rattle.frac_core.specs.declared.frac128.Frac128.{Frac128}
use Rattle.frac_core.specs.Values.{value}
use Rattle.loss_model.specs.declared.problem.Problem.{Problem}
use Rattle.loss_model.specs.declared.stop.Stop.TheVariants as stops
use Rattle.rq_words.specs.declared.job.FitJob.{FitJob}
use Rattle.report_text.specs.declared.report.Refusal.TheVariants.{Dependent}
use Rattle.report_text.specs.declared.report.Place.TheVariants as places
use Rattle.report_text.specs.declared.report.Halt.{Halt}
use Rattle.report_text.specs.declared.report.Halt.TheVariants.{Refused, OutOfMemory, PivotLimit, Overflow}
use Rattle.loss_model.specs.StartStop.{IsDependent}
use Rattle.rq_engine.specs.Stops.{HasStoppedInterval}
pub use Rattle.rank_inversion.specs.RankProblems.{IsRankable}

abbrev pub HasIntervalCause : FitJob → Problem Frac128 → Halt → Type 0
HasIntervalCause job p (Refused (Dependent combination)) = IsDependent value p combination
HasIntervalCause job p OutOfMemory = ⊤
HasIntervalCause job p (PivotLimit (places.Interval column tau) limit trail) = HasStoppedInterval job p column tau (stops.PivotLimit limit trail)
HasIntervalCause job p (Overflow (places.Interval column tau) trail spill) = HasStoppedInterval job p column tau (stops.Overflow trail spill)
HasIntervalCause job p halt = ⊥
