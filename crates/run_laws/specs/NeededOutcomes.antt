-- Law. A run that stops for a limit, for dependent columns or for a certificate that is too long had to; what overflows is an
-- operation on the printed operands.
use Rattle.std.specs.Prelude.{◌≡◌, ◌⊎◌, ℕ, ◌*◌, ◌<◌, Bool, true, false, is_some, List, Some}
use Rattle.rational_laws.specs.Fraction.{Fraction, rational}
use Rattle.rational_laws.specs.Rational.{ℚ}
use Rattle.frac_core.specs.declared.frac128.Frac128.{Frac128}
use Rattle.frac_core.specs.Values.{value}
use Rattle.loss_model.specs.declared.problem.Problem.{Problem}
use Rattle.loss_model.specs.declared.process.Trail.{Trail}
use Rattle.loss_model.specs.declared.spill.Spill.{Spill}
use Rattle.loss_model.specs.FullRank.{HasFullRank}
use Rattle.loss_model.specs.Problem.{sample}
use Rattle.walk_model.specs.WalkTrails.{ReachesProcessLimit, ReachesIntervalLimit}
use Rattle.pivot_laws.specs.BoundLaws.{further_bases}
use Rattle.stop_laws.specs.NeededStops.{DoesOverflow}
use Rattle.rank_inversion.specs.Stops.{IsBound}
use Rattle.nested_test.specs.Restricted.{restricted_problem}
use Rattle.cert_text.specs.declared.cert.Cert.{Cert}
use Rattle.rq_words.specs.declared.job.FitJob.{FitJob}
use Rattle.rq_words.specs.declared.job.Job.{Job}
use Rattle.rq_words.specs.declared.job.Job.TheVariants as jobs
use Rattle.rq_words.specs.declared.job.PathJob.{PathJob}
use Rattle.rq_words.specs.declared.job.RankAsk.{RankAsk}
use Rattle.rq_words.specs.declared.job.TestJob.{TestJob}
use Rattle.report_text.specs.declared.report.Place.{Place}
use Rattle.report_text.specs.declared.report.Place.TheVariants as places
use Rattle.report_text.specs.declared.report.Refusal.TheVariants.{CertTooLong, Dependent}
use Rattle.rq_input.specs.Inputs.{IsInput}
use Rattle.rq_input.specs.Plain.{IsPlain}
use Rattle.rq_input.specs.Tested.{IsTested}
use Rattle.rq_input.specs.declared.input.Input.{Input}
use Rattle.rq_input.specs.declared.plain.PlainInput.{PlainInput}
use Rattle.rq_engine.specs.Paths.{IsPathProblem}
use Rattle.rq_engine.specs.Stops.{most}
use Rattle.rq_engine.specs.Answers.{IsCertifiedOfBytes}
use Rattle.rq_engine.specs.Certificates.{IsTooLong}
use Rattle.rq_engine.specs.Jobs.{IsJobOf, sample_fit, sample_table}
use Rattle.rq_cli.specs.Outcomes.{Stream, IsRun, WereRead}
use Rattle.rq_cli.specs.declared.outcome.Outcome.TheVariants.{Refused, PivotLimit, Overflow}

-- the job is this fit of a table, with or without ranks, as a report, as a certificate, as a summary or as predictions;
-- no predictions are made with smooths, as no ranks are. A rank test and a path are of problems of their own
abbrev pub IsFitJob : Job → FitJob → Bool → Type 0
IsFitJob (jobs.Process job) fit ranked = (job ≡ fit) × (is_some job.rank ≡ ranked)
IsFitJob (jobs.Ranks job) fit ranked = (job ≡ fit) × (true ≡ ranked)
IsFitJob (jobs.Certify job) fit ranked = (job ≡ fit) × (is_some job.rank ≡ ranked)
IsFitJob (jobs.Predict job) fit ranked = (job ≡ fit) × (true ≡ ranked)
IsFitJob (jobs.Sample job) fit ranked = (sample_fit job ≡ fit) × (false ≡ ranked)
IsFitJob other fit ranked = ⊥

-- the bytes of the table that a job fits: those of the generated table, or those that it took from the source
abbrev pub table_bytes : Job → List ℕ → List ℕ
table_bytes (jobs.Sample job) bytes = sample_table job
table_bytes job bytes = bytes

-- the words ask for a job that is this fit
pub record AskFit (words : List (List ℕ)) (fit : FitJob) (ranked : Bool) : Type 0 where
  pub job : Job
  pub asked : IsJobOf words job
  pub is : IsFitJob job fit ranked

-- the words ask for a fit, and this is the input that the bytes of its table are for it
pub record WasInput (words : List (List ℕ)) (before now : Stream) (fit : FitJob) (input : Input) : Type 0 where
  pub ranked : Bool
  pub bytes : List ℕ
  pub asked : AskFit words fit ranked
  pub read : (job : Job) × WereRead words before now job bytes
  pub is : IsInput fit ranked (table_bytes asked.job bytes) input

-- the words ask for the rank test of columns, and this is the input that the bytes are, which has these columns
pub record WasTested (words : List (List ℕ)) (before now : Stream) (job : TestJob) (input : Input) : Type 0 where
  pub bytes : List ℕ
  pub read : WereRead words before now (jobs.Test job) bytes
  pub is : IsTested job bytes input

-- the words ask for a rank test with this fit, and this is the problem without the tested columns
pub record WasRestricted (words : List (List ℕ)) (before now : Stream) (fit : FitJob) (problem : Problem Frac128) : Type 0 where
  pub job : TestJob
  pub same : job.fit ≡ fit
  pub input : Input
  pub was : WasTested words before now job input
  pub without : restricted_problem job.tested input.problem ≡ problem

-- the words ask for a path in lambda, over the range of this fit, and this is its problem for the bytes that it took
pub record WasPath (words : List (List ℕ)) (before now : Stream) (fit : FitJob) (problem : Problem Frac128) : Type 0 where
  pub job : PathJob
  pub same : job.fit ≡ fit
  pub bytes : List ℕ
  pub read : WereRead words before now (jobs.Path job) bytes
  pub plain : PlainInput
  pub is : IsPlain job.fit bytes plain
  pub path : IsPathProblem job plain problem

-- the words and the bytes pose this problem: that of an input, that of one without tested columns, or that of a path
abbrev pub WasPosed : List (List ℕ) → (before now : Stream) → FitJob → Problem Frac128 → Type 0
WasPosed words before now fit problem =
    ((input : Input) × WasInput words before now fit input × (input.problem ≡ problem))
    ⊎ (WasRestricted words before now fit problem ⊎ WasPath words before now fit problem)

-- the lawful trail of the problem has as many pivots as the limit of the words says, with one more left; and the limit is
-- less than twice the bases after the first
pub record ReachesItsLimit (fit : FitJob) (problem : Problem Frac128) (limit : ℕ) (trail : Trail) : Type 0 where
  pub shown : limit ≡ fit.limit
  pub reached : ReachesProcessLimit (sample value problem) (rational (value fit.lo)) (rational (value fit.hi)) limit trail
  pub below : limit < 2 * further_bases (sample value problem)

-- the lawful trail of the interval of a column at a quantile has so many, with one more left, where the squared statistic is
-- bounded by the critical value of the words; and the limit is less than three times the bases after the first
pub record ReachesItsIntervalLimit (fit : FitJob) (problem : Problem Frac128) (column : ℕ) (tau : Frac128) (limit : ℕ) (trail : Trail) : Type 0 where
  pub shown : limit ≡ fit.limit
  pub rank : RankAsk
  pub asked : fit.rank ≡ Some rank
  pub bound : ℚ
  pub critical : IsBound value problem column (rational (value tau)) (rational (value rank.crit)) bound
  pub reached : ReachesIntervalLimit (sample value problem) (rational (value tau)) column bound limit trail
  pub below : limit < 3 * further_bases (sample value problem)

-- the process or the interval that the place names reaches the limit
abbrev pub ReachesLimitAt : Place → FitJob → Problem Frac128 → ℕ → Trail → Type 0
ReachesLimitAt places.Process fit problem limit trail = ReachesItsLimit fit problem limit trail
ReachesLimitAt (places.Interval column tau) fit problem limit trail = ReachesItsIntervalLimit fit problem column tau limit trail
ReachesLimitAt _ fit problem limit trail = ⊥

-- the words and the bytes pose a problem that reaches its limit there
abbrev pub IsLimitedAt : List (List ℕ) → (before now : Stream) → Place → ℕ → Trail → Type 0
IsLimitedAt words before now place limit trail =
    (fit : FitJob) × (problem : Problem Frac128) × WasPosed words before now fit problem × ReachesLimitAt place fit problem limit trail

-- PivotLimit comes only where a posed problem reaches its limit
abbrev pub LimitIsNeeded : Type 0
LimitIsNeeded =
    (words : List (List ℕ)) (source source' out out' err err' : Stream) (place : Place) (limit : ℕ) (trail : Trail)
    → IsRun words source source' out out' err err' (PivotLimit place limit trail) → IsLimitedAt words source source' place limit trail

-- Overflow comes only with an operation that overflows
abbrev pub OverflowIsNeeded : Type 0
OverflowIsNeeded =
    (words : List (List ℕ)) (source source' out out' err err' : Stream) (place : Place) (trail : Trail) (spill : Spill Frac128)
    → IsRun words source source' out out' err err' (Overflow place trail spill) → DoesOverflow value most spill

-- this is the whole input of a fit, or of a rank test with this fit
abbrev pub WasWhole : List (List ℕ) → (before now : Stream) → FitJob → Input → Type 0
WasWhole words before now fit input = WasInput words before now fit input ⊎ ((job : TestJob) × (job.fit ≡ fit) × WasTested words before now job input)

-- Dependent comes only where the columns of the problem are dependent
abbrev pub DependenceIsNeeded : Type 0
DependenceIsNeeded =
    (words : List (List ℕ)) (source source' out out' err err' : Stream) (combination : List Fraction)
    → IsRun words source source' out out' err err' (Refused (Dependent combination))
    → (fit : FitJob) × (input : Input) × WasWhole words source source' fit input × ¬ HasFullRank (sample value input.problem)

-- the certificate of the bytes is too long, and its text has this length
pub record HasLongCertificate (job : FitJob) (bytes : List ℕ) (n : ℕ) : Type 0 where
  pub cert : Cert
  pub right : IsCertifiedOfBytes job bytes cert
  pub long : IsTooLong cert n

-- CertTooLong comes only where the words ask for a certificate, and that of the bytes is too long
abbrev pub LengthIsNeeded : Type 0
LengthIsNeeded =
    (words : List (List ℕ)) (source source' out out' err err' : Stream) (n : ℕ)
    → IsRun words source source' out out' err err' (Refused (CertTooLong n))
    → (fit : FitJob) × (bytes : List ℕ) × WereRead words source source' (jobs.Certify fit) bytes × HasLongCertificate fit bytes n
