-- Stated. Why a problem has no fit or no rank intervals.
use Rattle.std.specs.Prelude.{◌≡◌, ℕ, ◌^◌, ◌-◌, ◌≤◌, List, [], length, ⊤}
use Rattle.std.specs.List.{AllZip}
use Rattle.rational_laws.specs.Fraction.{rational}
use Rattle.frac_core.specs.declared.frac128.Frac128.{Frac128}
use Rattle.frac_core.specs.Values.{value}
use Rattle.loss_model.specs.declared.problem.Problem.{Problem}
use Rattle.loss_model.specs.declared.process.Process.{Process}
use Rattle.loss_model.specs.declared.process.Trail.{Trail}
use Rattle.loss_model.specs.declared.stop.Stop.{Stop}
use Rattle.loss_model.specs.declared.stop.Stop.TheVariants as stops
use Rattle.loss_model.specs.Problem.{sample}
use Rattle.loss_model.specs.StartStop.{IsDependent}
use Rattle.walk_model.specs.WalkTrails.{ReachesProcessLimit}
use Rattle.tau_process.specs.Processes.{HasResults}
use Rattle.tau_process.specs.Stops.{IsProcessSpill}
use Rattle.rq_words.specs.declared.job.FitJob.{FitJob}
use Rattle.report_text.specs.declared.report.Refusal.TheVariants.{Dependent}
use Rattle.report_text.specs.declared.report.Place.TheVariants as places
use Rattle.report_text.specs.declared.report.Halt.{Halt}
use Rattle.report_text.specs.declared.report.Halt.TheVariants.{Refused, OutOfMemory, PivotLimit, Overflow}
use Rattle.rankscores.specs.declared.pair.ScorePair.{ScorePair}
use Rattle.rankscores.specs.Scores.{IsScored}
use Rattle.rq_engine.specs.Intervals.{IsFirstStop, asked_by}

-- where nothing was solved there is no trail
abbrev pub no_trail : Trail
no_trail = record { start = []; steps = []; rise = []; fall = [] }

-- the greatest number of 128 bits with a sign
abbrev pub most : ℕ
most = 2 ^ 127 - 1

-- of the intervals that a job asks of a problem, that of this column at this quantile is the first that stops
abbrev pub HasStoppedInterval : FitJob → Problem Frac128 → ℕ → Frac128 → Stop Frac128 → Type 0
HasStoppedInterval job p column tau stop =
    (crit : Frac128) × IsFirstStop value most p job.limit (asked_by job.rank p.columns) (record { column = column; tau = tau; crit = crit }) stop

-- the process is at its end within the limit, its segments have their scores, and then this interval stops
pub record LacksInterval (job : FitJob) (n : ℕ) (p : Problem Frac128) (column : ℕ) (tau : Frac128) (stop : Stop Frac128) : Type 0 where
  pub process : Process
  pub results : HasResults value p (rational (value job.lo)) (rational (value job.hi)) process
  pub short : length process.trail.steps ≤ job.limit
  pub scores : List (List ScorePair)
  pub scored : AllZip (IsScored value p n) process.segments scores
  pub stopped : HasStoppedInterval job p column tau stop

-- why the problem, whose first n rows are data rows, has no fit for the job: dependent columns, a limit that is
-- reached, or an operation that overflows, in the process or in one of the intervals. Want of memory is free of a
-- cause
abbrev pub HasProblemCause : FitJob → ℕ → Problem Frac128 → Halt → Type 0
HasProblemCause job n p (Refused (Dependent combination)) = IsDependent value p combination
HasProblemCause job n p (Refused _) = ⊥
HasProblemCause job n p OutOfMemory = ⊤
HasProblemCause job n p (PivotLimit places.Process limit trail) =
    (limit ≡ job.limit) × ReachesProcessLimit (sample value p) (rational (value job.lo)) (rational (value job.hi)) job.limit trail
HasProblemCause job n p (PivotLimit (places.Interval column tau) limit trail) = LacksInterval job n p column tau (stops.PivotLimit limit trail)
HasProblemCause job n p (Overflow places.Process trail spill) =
    IsProcessSpill value most p (rational (value job.lo)) (rational (value job.hi)) job.limit trail spill
HasProblemCause job n p (Overflow (places.Interval column tau) trail spill) = LacksInterval job n p column tau (stops.Overflow trail spill)
HasProblemCause job n p _ = ⊥
