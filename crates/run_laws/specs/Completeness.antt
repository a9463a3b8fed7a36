-- Law. A job whose input is well formed is answered, and a certificate whose conditions are true.
use Rattle.std.specs.Prelude.{◌≡◌, ◌⊎◌, ℕ, ◌*◌, ◌<◌, ◌≤◌, Bool, false, List, [], Some, length, ⊤}
use Rattle.rational_laws.specs.Fraction.{rational}
use Rattle.frac_core.specs.Limits.{most_rows}
use Rattle.frac_core.specs.declared.frac128.Frac128.{Frac128}
use Rattle.frac_core.specs.Values.{value}
use Rattle.loss_model.specs.declared.problem.Problem.{Problem}
use Rattle.loss_model.specs.declared.process.Trail.{Trail}
use Rattle.loss_model.specs.declared.spill.Spill.{Spill}
use Rattle.loss_model.specs.FullRank.{HasFullRank}
use Rattle.loss_model.specs.Problem.{sample}
use Rattle.loss_model.specs.StartStop.{IsStartSpill}
use Rattle.port_io.specs.Counts.{Rose}
use Rattle.port_io.specs.Told.{most_bytes}
use Rattle.pivot_laws.specs.BoundLaws.{further_bases}
use Rattle.stop_laws.specs.NeededStops.{DoesOverflow}
use Rattle.tau_process.specs.Stops.{IsLimited}
use Rattle.lambda_path.specs.Faults.{row_count}
use Rattle.cert_text.specs.declared.cert.Cert.{Cert}
use Rattle.cert_checker.specs.Certificates.{tests}
use Rattle.cert_checker.specs.Tests.{AreTrue}
use Rattle.rq_words.specs.declared.job.FitJob.{FitJob}
use Rattle.rq_words.specs.declared.job.Job.{Job}
use Rattle.rq_words.specs.declared.job.Job.TheVariants as jobs
use Rattle.rq_words.specs.declared.job.PathJob.{PathJob}
use Rattle.rq_words.specs.declared.job.SampleJob.{SampleJob}
use Rattle.rq_words.specs.declared.job.TestJob.{TestJob}
use Rattle.report_text.specs.declared.report.Place.{Place}
use Rattle.report_text.specs.declared.report.Place.TheVariants as places
use Rattle.report_text.specs.declared.report.Refusal.{Refusal}
use Rattle.report_text.specs.declared.report.Refusal.TheVariants.{CertTooLong, Dependent}
use Rattle.report_text.specs.declared.report.Report.TheVariants as reports
use Rattle.report_text.specs.declared.report.Halt.TheVariants as halts
use Rattle.rq_input.specs.Inputs.{HasInputCause, IsInput}
use Rattle.rq_input.specs.Plain.{HasPlainCause, IsPlain}
use Rattle.rq_input.specs.Predictions.{HasPredictionCause}
use Rattle.rq_input.specs.Tested.{HasTestedCause, IsTested}
use Rattle.rq_input.specs.declared.input.Input.{Input}
use Rattle.rq_input.specs.declared.plain.PlainInput.{PlainInput}
use Rattle.rq_engine.specs.Paths.{first_penalised}
use Rattle.rq_engine.specs.Stops.{most}
use Rattle.rq_engine.specs.Answers.{IsRight}
use Rattle.rq_engine.specs.Checks.{IsCertOf}
use Rattle.rq_engine.specs.Jobs.{IsJobOf, sample_fit, sample_table}
use Rattle.rq_words.specs.Requests.{Reads}
use Rattle.rq_cli.specs.Outcomes.{Stream, IsRun, IsHalted}
use Rattle.rq_cli.specs.declared.outcome.Outcome.{Outcome}
use Rattle.rq_cli.specs.declared.outcome.Outcome.TheVariants.{Done, Refused, OutOfMemory, PivotLimit, Overflow, Rejected}
use Rattle.run_laws.specs.NeededOutcomes.{AskFit, IsLimitedAt, WasInput, WasPath, WasPosed, WasRestricted, WasTested, table_bytes}

-- no count of faults rose
abbrev pub NoneRose : (source source' out out' err err' : Stream) → Type 0
NoneRose source source' out out' err err' =
    ¬ Rose source.faults source'.faults × ¬ Rose out.faults out'.faults × ¬ Rose err.faults err'.faults

-- the words ask for a fit of a table; where it comes from the source, that tells these bytes and not too many; the table's
-- bytes have no fault as a table, by the formula, as a design, in what smooths add or as a problem, and their problem has
-- full rank; and where the words ask for predictions, they have no fault as those
pub record IsWellFormed (words : List (List ℕ)) (source : Stream) (bytes : List ℕ) : Type 0 where
  pub fit : FitJob
  pub ranked : Bool
  pub asked : AskFit words fit ranked
  pub told : Reads asked.job → source.bytes ≡ Some bytes
  pub short : Reads asked.job → length bytes ≤ most_bytes
  pub sound : (fit : FitJob) (ranked : Bool) (asked : AskFit words fit ranked) (refusal : Refusal)
      → ¬ HasInputCause fit ranked (table_bytes asked.job bytes) (halts.Refused refusal)
  pub predicted : (fit : FitJob) (refusal : Refusal) → IsJobOf words (jobs.Predict fit) → ¬ HasPredictionCause fit bytes (halts.Refused refusal)
  pub rank : (fit : FitJob) (ranked : Bool) (input : Input) (asked : AskFit words fit ranked)
      → IsInput fit ranked (table_bytes asked.job bytes) input → HasFullRank (sample value input.problem)

-- the run prints the right report, or reaches its limit, or an operation overflows, or the certificate is too long; want
-- of memory is the free answer
abbrev pub IsAnswer : List (List ℕ) → (source source' : Stream) → List ℕ → Outcome → Type 0
IsAnswer words source source' bytes (Done report) = (job : Job) × IsJobOf words job × IsRight job bytes report
IsAnswer words source source' bytes (PivotLimit place limit trail) = IsLimitedAt words source source' place limit trail
IsAnswer words source source' bytes (Overflow place trail spill) = DoesOverflow value most spill
IsAnswer words source source' bytes (Refused (CertTooLong n)) = IsHalted words source source' (halts.Refused (CertTooLong n))
IsAnswer words source source' bytes OutOfMemory = ⊤
IsAnswer words source source' bytes _ = ⊥

-- while nothing fails, every run for words and a source that are well formed is answered so
abbrev pub Completeness : Type 0
Completeness =
    (words : List (List ℕ)) (source source' out out' err err' : Stream) (bytes : List ℕ) (outcome : Outcome)
    → IsRun words source source' out out' err err' outcome → NoneRose source source' out out' err err'
    → IsWellFormed words source bytes → IsAnswer words source source' bytes outcome

-- the outcome is no certificate that is too long
abbrev pub IsNotTooLong : Outcome → Type 0
IsNotTooLong (Refused (CertTooLong n)) = ⊥
IsNotTooLong _ = ⊤

-- the words ask for a generated table, and its problem has full rank
pub record IsGenerated (words : List (List ℕ)) : Type 0 where
  pub first : SampleJob
  pub asked : IsJobOf words (jobs.Sample first)
  pub rank : (job : SampleJob) (input : Input) → IsJobOf words (jobs.Sample job)
      → IsInput (sample_fit job) false (sample_table job) input → HasFullRank (sample value input.problem)

-- while nothing fails, every run for a generated table is answered so: its bytes have no fault, and no certificate is too long
abbrev pub SampleIsAnswered : Type 0
SampleIsAnswered =
    (words : List (List ℕ)) (source source' out out' err err' : Stream) (outcome : Outcome)
    → IsRun words source source' out out' err err' outcome → NoneRose source source' out out' err err'
    → IsGenerated words → IsAnswer words source source' [] outcome × IsNotTooLong outcome

-- the words ask for the rank test of columns, and the source tells these bytes and not too many, which are an input
-- without smooths; it has these columns and others, and all of them are independent
pub record IsNested (words : List (List ℕ)) (source : Stream) (bytes : List ℕ) : Type 0 where
  pub first : TestJob
  pub asked : IsJobOf words (jobs.Test first)
  pub told : source.bytes ≡ Some bytes
  pub short : length bytes ≤ most_bytes
  pub sound : (job : TestJob) (refusal : Refusal) → IsJobOf words (jobs.Test job) → ¬ HasTestedCause job bytes (halts.Refused refusal)
  pub rank : (job : TestJob) (input : Input) → IsJobOf words (jobs.Test job) → IsTested job bytes input → HasFullRank (sample value input.problem)

-- while nothing fails, every run for such a rank test is answered so, and no certificate is too long
abbrev pub TestIsAnswered : Type 0
TestIsAnswered =
    (words : List (List ℕ)) (source source' out out' err err' : Stream) (bytes : List ℕ) (outcome : Outcome)
    → IsRun words source source' out out' err err' outcome → NoneRose source source' out out' err err'
    → IsNested words source bytes → IsAnswer words source source' bytes outcome × IsNotTooLong outcome

-- how many rows a path of the input has: those of the records, and one for each penalised column
abbrev pub path_rows : PlainInput → ℕ
path_rows plain = row_count plain.input.problem (first_penalised plain.intercept)

-- the words ask for a path in lambda, and the source tells these bytes and not too many, which are an input without
-- smooths; and its rows aren't too many. Nothing is asked of its rank
pub record IsPathed (words : List (List ℕ)) (source : Stream) (bytes : List ℕ) : Type 0 where
  pub first : PathJob
  pub asked : IsJobOf words (jobs.Path first)
  pub told : source.bytes ≡ Some bytes
  pub short : length bytes ≤ most_bytes
  pub sound : (job : PathJob) (refusal : Refusal) → IsJobOf words (jobs.Path job) → ¬ HasPlainCause job.fit bytes (halts.Refused refusal)
  pub few : (job : PathJob) (plain : PlainInput) → IsJobOf words (jobs.Path job) → IsPlain job.fit bytes plain → path_rows plain ≤ most_rows

-- while nothing fails, every run for such a path is answered so, and no certificate is too long
abbrev pub PathIsAnswered : Type 0
PathIsAnswered =
    (words : List (List ℕ)) (source source' out out' err err' : Stream) (bytes : List ℕ) (outcome : Outcome)
    → IsRun words source source' out out' err err' outcome → NoneRose source source' out out' err err'
    → IsPathed words source bytes → IsAnswer words source source' bytes outcome × IsNotTooLong outcome

-- the outcome is no report and no stop of a fit: neither a limit nor an overflow, dependent columns or a certificate that
-- is too long
abbrev pub IsUnposed : Outcome → Type 0
IsUnposed (Done report) = ⊥
IsUnposed (PivotLimit place limit trail) = ⊥
IsUnposed (Overflow place trail spill) = ⊥
IsUnposed (Refused (Dependent combination)) = ⊥
IsUnposed (Refused (CertTooLong n)) = ⊥
IsUnposed _ = ⊤

-- where the words ask for a fit, and the bytes of its table have a fault as a table, by the formula, as a design, in what
-- smooths add or as a problem, a run has no report and no stop of a fit: so such a refusal comes exactly where there is
-- such a fault, save for memory and for streams that fail
abbrev pub FaultIsAnswered : Type 0
FaultIsAnswered =
    (words : List (List ℕ)) (source source' out out' err err' : Stream) (bytes : List ℕ) (outcome : Outcome) (first : FitJob) (kind : Bool)
    (asked : AskFit words first kind)
    → (Reads asked.job → source.bytes ≡ Some bytes)
    → ((fit : FitJob) (ranked : Bool) (ask : AskFit words fit ranked)
    → (refusal : Refusal) × HasInputCause fit ranked (table_bytes ask.job bytes) (halts.Refused refusal))
    → IsRun words source source' out out' err err' outcome → IsUnposed outcome

-- nor has it where the words ask for predictions, and the bytes have a fault as those
abbrev pub PredictionFaultIsAnswered : Type 0
PredictionFaultIsAnswered =
    (words : List (List ℕ)) (source source' out out' err err' : Stream) (bytes : List ℕ) (outcome : Outcome) (first : FitJob)
    → IsJobOf words (jobs.Predict first) → source.bytes ≡ Some bytes
    → ((fit : FitJob) → IsJobOf words (jobs.Predict fit) → (refusal : Refusal) × HasPredictionCause fit bytes (halts.Refused refusal))
    → IsRun words source source' out out' err err' outcome → IsUnposed outcome

-- nor has it where the words ask for a rank test, and the bytes have a fault as an input of one: a missing column, say
abbrev pub TestFaultIsAnswered : Type 0
TestFaultIsAnswered =
    (words : List (List ℕ)) (source source' out out' err err' : Stream) (bytes : List ℕ) (outcome : Outcome) (first : TestJob)
    → IsJobOf words (jobs.Test first) → source.bytes ≡ Some bytes
    → ((job : TestJob) → IsJobOf words (jobs.Test job) → (refusal : Refusal) × HasTestedCause job bytes (halts.Refused refusal))
    → IsRun words source source' out out' err err' outcome → IsUnposed outcome

-- the bytes have a fault as an input without smooths, or such an input of them has too many rows
abbrev pub HasPathFault : PathJob → List ℕ → Type 0
HasPathFault job bytes =
    ((refusal : Refusal) × HasPlainCause job.fit bytes (halts.Refused refusal))
    ⊎ ((plain : PlainInput) → IsPlain job.fit bytes plain → most_rows < path_rows plain)

-- nor has it where the words ask for a path, and the bytes have such a fault
abbrev pub PathFaultIsAnswered : Type 0
PathFaultIsAnswered =
    (words : List (List ℕ)) (source source' out out' err err' : Stream) (bytes : List ℕ) (outcome : Outcome) (first : PathJob)
    → IsJobOf words (jobs.Path first) → source.bytes ≡ Some bytes
    → ((job : PathJob) → IsJobOf words (jobs.Path job) → HasPathFault job bytes)
    → IsRun words source source' out out' err err' outcome → IsUnposed outcome

-- the words ask for a check, and the bytes that the source tells are not too many; they are this certificate, and all
-- its conditions are true
pub record IsPassing (words : List (List ℕ)) (source : Stream) (bytes : List ℕ) (cert : Cert) : Type 0 where
  pub asked : IsJobOf words jobs.Check
  pub told : source.bytes ≡ Some bytes
  pub short : length bytes ≤ most_bytes
  pub is : IsCertOf bytes cert
  pub sound : AreTrue (tests cert)

-- the certificate is accepted; want of memory is the free answer
abbrev pub IsAccepted : Cert → Outcome → Type 0
IsAccepted cert (Done report) = report ≡ reports.Checked cert
IsAccepted cert OutOfMemory = ⊤
IsAccepted cert _ = ⊥

-- while nothing fails, every check of a certificate whose conditions are true ends so
abbrev pub CheckIsAnswered : Type 0
CheckIsAnswered =
    (words : List (List ℕ)) (source source' out out' err err' : Stream) (bytes : List ℕ) (cert : Cert) (outcome : Outcome)
    → IsRun words source source' out out' err err' outcome → NoneRose source source' out out' err err'
    → IsPassing words source bytes cert → IsAccepted cert outcome

-- some trail of the problem reaches the limit of the words
abbrev pub IsLimitedProblem : FitJob → Problem Frac128 → Type 0
IsLimitedProblem fit problem =
    IsLimited (sample value problem) (rational (value fit.lo)) (rational (value fit.hi)) fit.limit

-- the place is the process
abbrev pub IsAtProcess : Place → Type 0
IsAtProcess places.Process = ⊤
IsAtProcess place = ⊥

-- or the costs of a path, which come before it
abbrev pub IsAtPath : Place → Type 0
IsAtPath places.Path = ⊤
IsAtPath place = IsAtProcess place

-- where a fit reaches its limit, a stop is that limit, or an overflow at such a place; there is no report, no stop of what
-- comes after the process, and no refusal of its columns or of a certificate
abbrev pub IsLimitOutcome : (Place → Type 0) → Outcome → Type 0
IsLimitOutcome overflows (Done report) = ⊥
IsLimitOutcome overflows (PivotLimit place limit trail) = IsAtProcess place
IsLimitOutcome overflows (Overflow place trail spill) = overflows place
IsLimitOutcome overflows (Refused (Dependent combination)) = ⊥
IsLimitOutcome overflows (Refused (CertTooLong n)) = ⊥
IsLimitOutcome overflows (Rejected rejection) = ⊥
IsLimitOutcome overflows _ = ⊤

-- where the words ask for a fit, and some trail of its problem reaches the limit, a stop is that limit, or an overflow of
-- the process
abbrev pub LimitIsAnswered : Type 0
LimitIsAnswered =
    (words : List (List ℕ)) (source source' out out' err err' : Stream) (outcome : Outcome) (first : FitJob) (kind : Bool)
    → AskFit words first kind → IsRun words source source' out out' err err' outcome
    → ((fit : FitJob) (input : Input) → WasInput words source source' fit input → IsLimitedProblem fit input.problem)
    → IsLimitOutcome IsAtProcess outcome

-- where the words ask for a path, and some trail of its problem reaches it, a stop is that limit, or an overflow of the
-- costs or of the process
abbrev pub PathLimitIsAnswered : Type 0
PathLimitIsAnswered =
    (words : List (List ℕ)) (source source' out out' err err' : Stream) (outcome : Outcome) (first : PathJob)
    → IsJobOf words (jobs.Path first) → IsRun words source source' out out' err err' outcome
    → ((fit : FitJob) (problem : Problem Frac128) → WasPath words source source' fit problem → IsLimitedProblem fit problem)
    → IsLimitOutcome IsAtPath outcome

-- the outcome is no report
abbrev pub IsNoReport : Outcome → Type 0
IsNoReport (Done report) = ⊥
IsNoReport _ = ⊤

-- where the words ask for a rank test, and some trail of the problem without the tested columns reaches the limit, there is
-- no report
abbrev pub TestLimitIsAnswered : Type 0
TestLimitIsAnswered =
    (words : List (List ℕ)) (source source' out out' err err' : Stream) (outcome : Outcome) (first : TestJob)
    → IsJobOf words (jobs.Test first) → IsRun words source source' out out' err err' outcome
    → ((fit : FitJob) (problem : Problem Frac128) → WasRestricted words source source' fit problem → IsLimitedProblem fit problem)
    → IsNoReport outcome

-- how often the bases after the first may come: in the solve and in the walk of a process, and in the solve and in both
-- walks of an interval
abbrev pub parts_of : Place → ℕ
parts_of places.Process = 2
parts_of (places.Interval column tau) = 3
parts_of other = 0

-- where the limit is at least so many times these bases, it stops neither the process nor the interval
abbrev pub AmpleLimitIsNeverReached : Type 0
AmpleLimitIsNeverReached =
    (words : List (List ℕ)) (source source' out out' err err' : Stream) (place : Place) (limit : ℕ) (trail : Trail)
    → ((fit : FitJob) (problem : Problem Frac128) → WasPosed words source source' fit problem
    → (parts_of place * further_bases (sample value problem)) ≤ fit.limit)
    → ¬ IsRun words source source' out out' err err' (PivotLimit place limit trail)

-- an operation in the start of the problem of a fit overflows
abbrev pub StartOverflows : List (List ℕ) → (before now : Stream) → Trail → Spill Frac128 → Type 0
StartOverflows words before now trail spill =
    (fit : FitJob) × (input : Input) × WasInput words before now fit input × IsStartSpill value most input.problem trail spill

-- where its columns are dependent, a stop is an overflow in the start: there is no report, no limit, and no certificate
abbrev pub IsDependentOutcome : List (List ℕ) → (before now : Stream) → Outcome → Type 0
IsDependentOutcome words before now (Done report) = ⊥
IsDependentOutcome words before now (PivotLimit place limit trail) = ⊥
IsDependentOutcome words before now (Overflow places.Process trail spill) = StartOverflows words before now trail spill
IsDependentOutcome words before now (Overflow place trail spill) = ⊥
IsDependentOutcome words before now (Refused (CertTooLong n)) = ⊥
IsDependentOutcome words before now (Rejected rejection) = ⊥
IsDependentOutcome words before now _ = ⊤

-- where the words ask for a fit, and the columns of its problem are dependent, the outcome is such a one
abbrev pub DependenceIsAnswered : Type 0
DependenceIsAnswered =
    (words : List (List ℕ)) (source source' out out' err err' : Stream) (outcome : Outcome) (first : FitJob) (kind : Bool)
    → AskFit words first kind → IsRun words source source' out out' err err' outcome
    → ((fit : FitJob) (input : Input) → WasInput words source source' fit input → ¬ HasFullRank (sample value input.problem))
    → IsDependentOutcome words source source' outcome

-- the outcome is neither a report nor a limit
abbrev pub IsUnfitted : Outcome → Type 0
IsUnfitted (Done report) = ⊥
IsUnfitted (PivotLimit place limit trail) = ⊥
IsUnfitted _ = ⊤

-- where the words ask for a rank test, and the columns of the whole problem are dependent, there is neither
abbrev pub TestDependenceIsAnswered : Type 0
TestDependenceIsAnswered =
    (words : List (List ℕ)) (source source' out out' err err' : Stream) (outcome : Outcome) (first : TestJob)
    → IsJobOf words (jobs.Test first) → IsRun words source source' out out' err err' outcome
    → ((job : TestJob) (input : Input) → WasTested words source source' job input → ¬ HasFullRank (sample value input.problem))
    → IsUnfitted outcome
