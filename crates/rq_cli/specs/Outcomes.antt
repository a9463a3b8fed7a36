-- Stated. What an outcome of a run says of the words, of the bytes that came, and of what was written.
use Rattle.std.specs.Prelude.{◌≡◌, ℕ, ◌<◌, ◌≤◌, ◌+◌, ◌⊎◌, List, [], Option, Err, length, ⊤}
use Rattle.std.specs.Io.KnownBytes.{Appends, Keeps}
use Rattle.port_io.specs.Counts.{Rose}
use Rattle.port_io.specs.Told.{most_bytes, TakesAll, TakesFirst, AppendsPart}
use Rattle.rq_words.specs.Requests.{Reads}
use Rattle.rq_words.specs.Words.{words_of}
use Rattle.rq_words.specs.declared.job.Job.{Job}
use Rattle.rq_words.specs.declared.job.Job.TheVariants as jobs
use Rattle.rq_engine.specs.Answers as engine
use Rattle.rq_engine.specs.Answers.{IsRight}
use Rattle.report_text.specs.FaultText.{source_line, sink_line, memory_line, halt_line, usage_line}
use Rattle.report_text.specs.ReportText.{report_text}
use Rattle.report_text.specs.declared.report.Refusal.TheVariants.{TooLong}
use Rattle.report_text.specs.declared.report.Report.{Report}
use Rattle.report_text.specs.declared.report.Halt.{Halt}
use Rattle.report_text.specs.declared.report.Halt.TheVariants as halts
use Rattle.rq_engine.specs.Jobs.{IsJobOf}
use Rattle.rq_cli.specs.declared.outcome.Outcome.{Outcome}
use Rattle.rq_cli.specs.declared.outcome.Outcome.TheVariants.{Done, Refused, Usage, SourceFault, SinkFault, OutOfMemory, PivotLimit, Overflow, Rejected}

-- a fact of the report
abbrev pub OnDone : Outcome → (Report → Type 0) → Type 0
OnDone (Done report) P = P report
OnDone _ P = ⊤

-- a fact of every outcome but a report and a failing sink
abbrev pub OnFault : Outcome → Type 0 → Type 0
OnFault (Done _) P = ⊤
OnFault SinkFault P = ⊤
OnFault _ P = P

-- the line of an outcome
abbrev pub outcome_line : Outcome → List ℕ
outcome_line (Done _) = []
outcome_line (Refused refusal) = halt_line (halts.Refused refusal)
outcome_line (Usage fault) = usage_line fault
outcome_line SourceFault = source_line
outcome_line SinkFault = sink_line
outcome_line OutOfMemory = memory_line
outcome_line (PivotLimit place limit trail) = halt_line (halts.PivotLimit place limit trail)
outcome_line (Overflow place trail spill) = halt_line (halts.Overflow place trail spill)
outcome_line (Rejected rejection) = halt_line (halts.Rejected rejection)

-- the bytes of a source or a sink, where it tells them, and its count of faults
pub record Stream : Type 0 where
  pub bytes : Option (List ℕ)
  pub faults : ℕ

-- a stream with these bytes and this count
abbrev pub stream : Option (List ℕ) → ℕ → Stream
stream bytes faults = record { bytes = bytes; faults = faults }

-- what a job takes from the source: all of its bytes, to the end; where the table is generated nothing
abbrev pub Takes : Job → (before now : Stream) → List ℕ → Type 0
Takes (jobs.Sample sample) before now bytes = (now ≡ before) × (bytes ≡ [])
Takes job before now bytes = TakesAll before.bytes now.bytes bytes

-- the words ask for the job, which took these bytes from the source
pub record WereRead (words : List (List ℕ)) (before now : Stream) (job : Job) (bytes : List ℕ) : Type 0 where
  pub asked : IsJobOf words job
  pub taken : Takes job before now bytes
  pub short : length bytes ≤ most_bytes

-- the report is right for the job of the words and for the bytes of the source
pub record IsAnswered (words : List (List ℕ)) (before now : Stream) (report : Report) : Type 0 where
  pub job : Job
  pub bytes : List ℕ
  pub read : WereRead words before now job bytes
  pub right : IsRight job bytes report

-- the bytes of the source have no report for the job of the words, for the cause of this halt
pub record IsHalted (words : List (List ℕ)) (before now : Stream) (halt : Halt) : Type 0 where
  pub job : Job
  pub bytes : List ℕ
  pub read : WereRead words before now job bytes
  pub cause : engine.HasCause job bytes halt

-- more than 2^26 bytes came
pub record IsTooLong (words : List (List ℕ)) (before now : Stream) : Type 0 where
  pub job : Job
  pub asked : IsJobOf words job
  pub reads : Reads job
  pub came : TakesFirst before.bytes now.bytes (most_bytes + 1)

-- the words ask for a job that reads its source
pub record AskSource (words : List (List ℕ)) : Type 0 where
  pub job : Job
  pub asked : IsJobOf words job
  pub reads : Reads job

-- the words and what came of the source are the cause of this fault; want of memory, the free answer, needs none
abbrev pub IsFault : List (List ℕ) → Stream → Stream → Outcome → Type 0
IsFault words before now (Refused TooLong) = IsTooLong words before now
IsFault words before now (Refused refusal) = IsHalted words before now (halts.Refused refusal)
IsFault words before now (Usage fault) = words_of words ≡ Err fault
IsFault words before now SourceFault = AskSource words × Rose before.faults now.faults
IsFault words before now OutOfMemory = ⊤
IsFault words before now (PivotLimit place limit trail) = IsHalted words before now (halts.PivotLimit place limit trail)
IsFault words before now (Overflow place trail spill) = IsHalted words before now (halts.Overflow place trail spill)
IsFault words before now (Rejected rejection) = IsHalted words before now (halts.Rejected rejection)
IsFault words before now (Done _) = ⊥
IsFault words before now SinkFault = ⊥

-- all of the bytes were added, or the sink failed behind a part of them
abbrev pub WasTried : Stream → Stream → List ℕ → Type 0
WasTried before now bytes =
    Appends before.bytes now.bytes bytes ⊎ (Rose before.faults now.faults × AppendsPart before.bytes now.bytes bytes)

-- standard output failed behind a part of the text of the report, and the line of a failing sink was tried
pub record IsOutputFault (words : List (List ℕ)) (source source' out out' err err' : Stream) : Type 0 where
  pub report : Report
  pub answered : IsAnswered words source source' report
  pub rose : Rose out.faults out'.faults
  pub part : AppendsPart out.bytes out'.bytes (report_text report)
  pub tried : WasTried err err' sink_line

-- standard output is as it was, and standard error failed behind a part of the line of this fault, which has its cause
pub record IsErrorFault (words : List (List ℕ)) (source source' out out' err err' : Stream) (fault : Outcome) : Type 0 where
  pub cause : IsFault words source source' fault
  pub kept : Keeps out.bytes out'.bytes
  pub counted : out'.faults ≡ out.faults
  pub rose : Rose err.faults err'.faults
  pub part : AppendsPart err.bytes err'.bytes (outcome_line fault)

-- why a run has this outcome: a report is right, a sink failed, or a fault has its cause
abbrev pub HasCause : List (List ℕ) → (source source' out out' err err' : Stream) → Outcome → Type 0
HasCause words source source' out out' err err' (Done report) = IsAnswered words source source' report
HasCause words source source' out out' err err' SinkFault =
    IsOutputFault words source source' out out' err err' ⊎ ((fault : Outcome) × IsErrorFault words source source' out out' err err' fault)
HasCause words source source' out out' err err' fault = IsFault words source source' fault

-- what a run with this outcome read and wrote
pub record IsRun (words : List (List ℕ)) (source source' out out' err err' : Stream) (outcome : Outcome) : Type 0 where
  -- a report is the right one, and every other outcome has its cause
  pub cause : HasCause words source source' out out' err err' outcome
  -- a report is printed whole, and nothing is told
  pub printed : OnDone outcome (λ report. Appends out.bytes out'.bytes (report_text report))
  pub quiet : OnDone outcome (λ _. Keeps err.bytes err'.bytes)
  -- a fault leaves standard output alone, and its line is told
  pub untouched : OnFault outcome (Keeps out.bytes out'.bytes)
  pub told : OnFault outcome (Appends err.bytes err'.bytes (outcome_line outcome))
  -- a failed read has no other outcome, unless its line couldn't be told
  pub source_grew : source.faults < source'.faults → (outcome ≡ SourceFault)
      ⊎ ((outcome ≡ SinkFault) × IsErrorFault words source source' out out' err err' SourceFault)
  -- and a failed write has none
  pub out_grew : out.faults < out'.faults → outcome ≡ SinkFault
  pub err_grew : err.faults < err'.faults → outcome ≡ SinkFault
