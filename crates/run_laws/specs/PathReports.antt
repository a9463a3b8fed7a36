-- Law. What a printed path in lambda says.
use Rattle.std.specs.Prelude.{ℕ, ◌+◌, ◌<◌, ◌≤◌, List, All, length}
use Rattle.rational_laws.specs.Fraction.{Fraction, rational}
use Rattle.rational_laws.specs.Rational.{ℚ, ◌≤ℚ◌}
use Rattle.frac_core.specs.Values.{exact, value}
use Rattle.loss_model.specs.declared.process.Segment.{Segment}
use Rattle.loss_model.specs.Problem.{sample, number_at}
use Rattle.loss_model.specs.Segment.{of_segment}
use Rattle.lambda_path.specs.Paths.{absolute_sum, path_loss}
use Rattle.rq_words.specs.declared.job.Job.TheVariants as jobs
use Rattle.rq_words.specs.declared.job.PathJob.{PathJob}
use Rattle.report_text.specs.declared.report.PathFit.{PathFit}
use Rattle.report_text.specs.declared.report.Report.TheVariants as reports
use Rattle.rq_input.specs.Plain.{IsPlain}
use Rattle.rq_input.specs.declared.plain.PlainInput.{PlainInput}
use Rattle.rq_engine.specs.Paths.{first_penalised}
use Rattle.rq_cli.specs.Outcomes.{IsRun, Stream, WereRead}
use Rattle.rq_cli.specs.declared.outcome.Outcome.TheVariants.{Done}

module _ (job : PathJob) (plain : PlainInput) where
  -- what coefficients lose at lambda: the weighted check loss of the records at the job's quantile, and lambda times the
  -- sum of their absolute values, that of an intercept apart
  abbrev pub loss_of : ℚ → (ℕ → ℚ) → ℚ
  loss_of = path_loss (sample value plain.input.problem) (first_penalised plain.intercept) (exact job.tau)

  -- that sum
  abbrev pub sum_of : (ℕ → ℚ) → ℚ
  sum_of = absolute_sum (sample value plain.input.problem) (first_penalised plain.intercept)

  -- at every lambda of the segment its coefficients lose least
  abbrev pub LosesLeast : Segment → Type 0
  LosesLeast s =
      (lambda : Fraction) (other : ℕ → ℚ) → 1 ≤ lambda.den → rational s.lo ≤ℚ rational lambda → rational lambda ≤ℚ rational s.hi
      → loss_of (rational lambda) (number_at s.vertex.coef) ≤ℚ loss_of (rational lambda) other

  -- the coefficients of segment j
  abbrev pub coefficients : List Segment → ℕ → ℕ → ℚ
  coefficients segments j k = of_segment segments (λ s. number_at s.vertex.coef k) j

  -- they lose least in each segment, and their sum never rises from one to the next
  pub record IsLeastPath (fit : PathFit) : Type 0 where
    pub least : All LosesLeast fit.process.segments
    pub falls : (j : ℕ) → j + 1 < length fit.process.segments
        → sum_of (coefficients fit.process.segments (j + 1)) ≤ℚ sum_of (coefficients fit.process.segments j)

-- a printed path is such a one of the input that the bytes are
abbrev pub PathIsLeast : Type 0
PathIsLeast =
    (words : List (List ℕ)) (source source' out out' err err' : Stream) (fit : PathFit)
    → IsRun words source source' out out' err err' (Done (reports.Path fit))
    → (job : PathJob) × (bytes : List ℕ) × (plain : PlainInput) × WereRead words source source' (jobs.Path job) bytes × IsPlain job.fit bytes plain
    × IsLeastPath job plain fit
