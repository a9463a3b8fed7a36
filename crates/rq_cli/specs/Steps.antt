-- Inner. What the steps of a run write.
use Rattle.std.specs.Prelude.{◌≡◌, ◌⊎◌, ℕ, List}
use Rattle.std.specs.Io.KnownBytes.{Appends, Keeps}
use Rattle.port_io.specs.Counts.{Rose}
use Rattle.port_io.specs.Told.{AppendsPart}
use Rattle.rq_words.specs.declared.job.Job.{Job}
use Rattle.rq_engine.specs.Jobs.{IsJobOf}
use Rattle.report_text.specs.FaultText.{sink_line}
use Rattle.report_text.specs.ReportText.{report_text}
use Rattle.report_text.specs.declared.report.Report.{Report}
use Rattle.report_text.specs.declared.report.Fault.{Fault}
use Rattle.report_text.specs.declared.report.Fault.TheVariants as faults
use Rattle.report_text.specs.declared.report.Halt.TheVariants as halts
use Rattle.rq_cli.specs.Outcomes.{Stream, outcome_line, IsFault, WasTried}
use Rattle.rq_cli.specs.declared.outcome.Outcome.{Outcome}
use Rattle.rq_cli.specs.declared.outcome.Outcome.TheVariants as outcomes
use Rattle.rq_cli.specs.declared.outcome.Outcome.TheVariants.{Done, SinkFault}

-- the outcome of a run that ends with this fault
abbrev pub outcome_of : Fault → Outcome
outcome_of (faults.Usage fault) = outcomes.Usage fault
outcome_of faults.Source = outcomes.SourceFault
outcome_of faults.Sink = outcomes.SinkFault
outcome_of (faults.Halt (halts.Refused refusal)) = outcomes.Refused refusal
outcome_of (faults.Halt halts.OutOfMemory) = outcomes.OutOfMemory
outcome_of (faults.Halt (halts.PivotLimit place limit trail)) = outcomes.PivotLimit place limit trail
outcome_of (faults.Halt (halts.Overflow place trail spill)) = outcomes.Overflow place trail spill
outcome_of (faults.Halt (halts.Rejected rejection)) = outcomes.Rejected rejection

-- the words have this fault, whatever the source holds
abbrev pub IsWordFault : List (List ℕ) → Fault → Type 0
IsWordFault words fault = (before now : Stream) → IsFault words before now (outcome_of fault)

-- reading the source for the job has this fault, whatever words ask for it
abbrev pub IsSourceFault : Job → (before now : Stream) → Fault → Type 0
IsSourceFault job before now fault = (words : List (List ℕ)) → IsJobOf words job → IsFault words before now (outcome_of fault)

-- the line of the fault was added
pub record IsTold (fault outcome : Outcome) (err err' : Stream) : Type 0 where
  pub is : outcome ≡ fault
  pub told : Appends err.bytes err'.bytes (outcome_line fault)
  pub counted : err'.faults ≡ err.faults

-- the sink failed behind a part of it
pub record IsHalfTold (fault outcome : Outcome) (err err' : Stream) : Type 0 where
  pub is : outcome ≡ SinkFault
  pub part : AppendsPart err.bytes err'.bytes (outcome_line fault)
  pub rose : Rose err.faults err'.faults

-- the line of a fault was added, or the sink failed behind a part of it
abbrev pub WasTold : Outcome → Outcome → Stream → Stream → Type 0
WasTold fault outcome err err' = IsTold fault outcome err err' ⊎ IsHalfTold fault outcome err err'

-- the text of the report was added
pub record IsPrinted (report : Report) (outcome : Outcome) (out out' err err' : Stream) : Type 0 where
  pub is : outcome ≡ Done report
  pub printed : Appends out.bytes out'.bytes (report_text report)
  pub quiet : Keeps err.bytes err'.bytes
  pub out_counted : out'.faults ≡ out.faults
  pub err_counted : err'.faults ≡ err.faults

-- standard output failed behind a part of it, and the line of a failing sink was tried
pub record IsHalfPrinted (report : Report) (outcome : Outcome) (out out' err err' : Stream) : Type 0 where
  pub is : outcome ≡ SinkFault
  pub part : AppendsPart out.bytes out'.bytes (report_text report)
  pub rose : Rose out.faults out'.faults
  pub tried : WasTried err err' sink_line

-- the text of a report was added, or the sink failed behind a part of it
abbrev pub WasPrinted : Report → Outcome → Stream → Stream → Stream → Stream → Type 0
WasPrinted report outcome out out' err err' = IsPrinted report outcome out out' err err' ⊎ IsHalfPrinted report outcome out out' err err'
