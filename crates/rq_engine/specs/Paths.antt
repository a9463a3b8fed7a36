-- Stated. The right path in lambda of an input, and why there is none.
use Rattle.std.specs.Prelude.{◌≡◌, ◌<◌, ◌≤◌, ℕ, Bool, true, false, length, ⊤}
use Rattle.rational_laws.specs.Fraction.{rational}
use Rattle.frac_core.specs.declared.frac128.Frac128.{Frac128}
use Rattle.frac_core.specs.Limits.{most_rows}
use Rattle.frac_core.specs.Values.{exact, value}
use Rattle.loss_model.specs.declared.problem.Problem.{Problem}
use Rattle.loss_model.specs.Problem.{sample, IsWellShaped}
use Rattle.walk_model.specs.WalkTrails.{ReachesProcessLimit}
use Rattle.tau_process.specs.Stops.{IsProcessSpill}
use Rattle.tv_penalty.specs.Operations.{OverflowsFirst}
use Rattle.lambda_path.specs.Faults.{path_operations, row_count}
use Rattle.lambda_path.specs.Paths.{IsPathOf}
use Rattle.rq_words.specs.declared.job.PathJob.{PathJob}
use Rattle.report_text.specs.declared.report.PathFit.{PathFit}
use Rattle.rq_program.specs.declared.fault.ProgramFault.TheVariants.{TooManyRows}
use Rattle.report_text.specs.declared.report.Refusal.TheVariants.{Program}
use Rattle.report_text.specs.declared.report.Place.TheVariants as places
use Rattle.report_text.specs.declared.report.Halt.{Halt}
use Rattle.report_text.specs.declared.report.Halt.TheVariants.{Refused, OutOfMemory, PivotLimit, Overflow}
use Rattle.rq_input.specs.declared.plain.PlainInput.{PlainInput}
use Rattle.rq_engine.specs.Fit.{IsRightProcess}
use Rattle.rq_engine.specs.Stops.{most, no_trail}

-- the first column whose coefficient is penalised: the one behind the intercept
abbrev pub first_penalised : Bool → ℕ
first_penalised true = 1
first_penalised false = 0

-- the problem whose parameter is lambda, at the quantile of the job
abbrev pub IsPathProblem : PathJob → PlainInput → Problem Frac128 → Type 0
IsPathProblem job plain p = IsPathOf (sample value plain.input.problem) (first_penalised plain.intercept) (exact job.tau) (sample value p)

-- the right process over lambda of that problem, of an input within the limits; what is told beside is the design's
pub record IsPathFitOf (job : PathJob) (plain : PlainInput) (fit : PathFit) : Type 0 where
  pub kept : fit.kept ≡ length plain.input.design.rows
  pub dropped : fit.dropped ≡ plain.input.design.dropped
  pub names : fit.names ≡ plain.input.design.names
  pub data_rows : fit.data_rows ≡ length plain.input.design.rows
  pub input : IsWellShaped plain.input.problem
  pub shaped : IsWellShaped fit.problem
  pub path : IsPathProblem job plain fit.problem
  pub process : IsRightProcess value job.fit fit.problem fit.process

-- ---- why there is none

-- the path problem of the input reaches its limit, or an operation of its process overflows
pub record LacksPath (job : PathJob) (plain : PlainInput) (P : Problem Frac128 → Type 0) : Type 0 where
  pub problem : Problem Frac128
  pub shaped : IsWellShaped problem
  pub path : IsPathProblem job plain problem
  pub cause : P problem

-- too many rows, an operation of a cost that overflows, a limit that is reached, or an operation of the process. Want
-- of memory is free of a cause; the columns are never dependent
abbrev pub HasPathCause : PathJob → PlainInput → Halt → Type 0
HasPathCause job plain (Refused (Program TooManyRows)) = most_rows < row_count plain.input.problem (first_penalised plain.intercept)
HasPathCause job plain OutOfMemory = ⊤
HasPathCause job plain (PivotLimit places.Process limit trail) =
    (limit ≡ job.fit.limit) × LacksPath job plain (λ p. ReachesProcessLimit (sample value p) (rational (value job.fit.lo))
    (rational (value job.fit.hi)) job.fit.limit trail)
HasPathCause job plain (Overflow places.Process trail spill) =
    LacksPath job plain (λ p. IsProcessSpill value most p (rational (value job.fit.lo)) (rational (value job.fit.hi)) job.fit.limit trail spill)
HasPathCause job plain (Overflow places.Path trail spill) =
    (trail ≡ no_trail) × (row_count plain.input.problem (first_penalised plain.intercept) ≤ most_rows)
    × OverflowsFirst (path_operations plain.input.problem (exact job.tau)) spill
HasPathCause job plain _ = ⊥
