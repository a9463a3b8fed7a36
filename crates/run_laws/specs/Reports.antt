-- Law. What a report has inside: segments, each with its problem, and in some a fit, which is of an input.
use Rattle.std.specs.Prelude.{◌≡◌, ℕ, Bool, true, false, List, All, Option, Some, None, is_some, length, ⊤}
use Rattle.rational_laws.specs.Fraction.{Fraction, rational}
use Rattle.rational_laws.specs.Rational.{ℚ}
use Rattle.frac_core.specs.declared.frac128.Frac128.{Frac128}
use Rattle.loss_model.specs.declared.problem.Problem.{Problem}
use Rattle.loss_model.specs.declared.process.Segment.{Segment}
use Rattle.nested_test.specs.Restricted.{restricted_problem}
use Rattle.rq_words.specs.declared.job.Job.{Job}
use Rattle.rq_words.specs.declared.job.Job.TheVariants as jobs
use Rattle.rq_words.specs.declared.job.FitJob.{FitJob}
use Rattle.report_text.specs.declared.report.Fit.{Fit}
use Rattle.report_text.specs.declared.report.Report.{Report}
use Rattle.report_text.specs.declared.report.Report.TheVariants as reports
use Rattle.rq_input.specs.Inputs.{IsInput}
use Rattle.rq_input.specs.Predictions.{IsPrediction}
use Rattle.rq_input.specs.Tested.{IsTested}
use Rattle.rq_input.specs.declared.input.Input.{Input}
use Rattle.rq_input.specs.declared.predictions.PredictionInput.{PredictionInput}
use Rattle.rq_engine.specs.Jobs.{sample_fit, sample_table}
use Rattle.rq_cli.specs.Outcomes.{Stream, WereRead}

-- a printed number
abbrev pub printed : Fraction → ℚ
printed x = rational x

-- ---- segments

-- a fact of every segment of a report and its problem: that of a test is without the tested columns, and the parameter of a
-- path is lambda
abbrev pub OnSegments : (Problem Frac128 → Segment → Type 0) → Job → List ℕ → Report → Type 0
OnSegments P (jobs.Process job) bytes (reports.Process fit) = All (P fit.problem) fit.process.segments
OnSegments P (jobs.Ranks job) bytes (reports.Ranks ranks) = All (P ranks.fit.problem) ranks.fit.process.segments
OnSegments P (jobs.Certify job) bytes (reports.Certificate cert) = All (P cert.problem) cert.segments
OnSegments P jobs.Check bytes (reports.Checked cert) = All (P cert.problem) cert.segments
OnSegments P (jobs.Test job) bytes (reports.Test fit) =
    (input : Input) × IsTested job bytes input × All (P (restricted_problem job.tested input.problem)) fit.process.segments
OnSegments P (jobs.Predict job) bytes (reports.Predict fit) =
    (asked : PredictionInput) × IsPrediction job bytes asked × All (P asked.input.problem) fit.process.segments
OnSegments P (jobs.Path job) bytes (reports.Path fit) = All (P fit.problem) fit.process.segments
OnSegments P (jobs.Sample job) bytes (reports.Sample fit) = All (P fit.problem) fit.process.segments
OnSegments P _ bytes report = ⊥

-- the words ask for a job and the source had bytes of which the report has such segments
pub record HasSegments (words : List (List ℕ)) (source source' : Stream) (report : Report) (P : Problem Frac128 → Segment → Type 0) : Type 0 where
  pub job : Job
  pub bytes : List ℕ
  pub read : WereRead words source source' job bytes
  pub segments : OnSegments P job bytes report

-- ---- fits

-- a fact of the fit in a report that has one: of a process, of Wilcoxon scores, of a generated table, and of a certificate,
-- which states the problem and the segments of one
abbrev pub OnFit : Report → (Fit → Type 0) → Type 0
OnFit (reports.Process fit) P = P fit
OnFit (reports.Ranks ranks) P = P ranks.fit
OnFit (reports.Sample fit) P = P fit
OnFit (reports.Certificate cert) P = (fit : Fit) × (cert.problem ≡ fit.problem) × (cert.segments ≡ fit.process.segments) × P fit
OnFit _ P = ⊤

-- the fit that is asked for, whether its formula may have no smooths, and the bytes of its table
pub record AskedFit : Type 0 where
  pub job : FitJob
  pub ranked : Bool
  pub bytes : List ℕ

-- that of a job, where these bytes came: a generated table has its own
abbrev pub asked_fit : Job → List ℕ → Option AskedFit
asked_fit (jobs.Process job) came = Some (record { job = job; ranked = is_some job.rank; bytes = came })
asked_fit (jobs.Ranks job) came = Some (record { job = job; ranked = true; bytes = came })
asked_fit (jobs.Certify job) came = Some (record { job = job; ranked = is_some job.rank; bytes = came })
asked_fit (jobs.Sample job) came = Some (record { job = sample_fit job; ranked = false; bytes = sample_table job })
asked_fit job came = None

-- the fit is of the input that the bytes are for which the words ask, and a row of each record stands before the penalty rows
pub record IsReadFit (words : List (List ℕ)) (source source' : Stream) (fit : Fit) : Type 0 where
  pub job : Job
  pub came : List ℕ
  pub read : WereRead words source source' job came
  pub asked : AskedFit
  pub asks : asked_fit job came ≡ Some asked
  pub input : Input
  pub is : IsInput asked.job asked.ranked asked.bytes input
  pub problem_is : fit.problem ≡ input.problem
  pub data_rows : fit.data_rows ≡ length input.design.rows
