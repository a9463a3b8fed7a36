-- From the steps of a run to what the run did.
use Rattle.std.proofs.Common.{◌≡◌, ℕ, ◌<◌, List, Option, None, Some, Result, Ok, Err, OnOk, OnErr, arith, refl, sym, ap, subst, inl, inr}
use Rattle.std.specs.Io.KnownBytes.{Appends, Keeps}
use Rattle.rq_words.specs.declared.job.Job.{Job}
use Rattle.rq_words.specs.declared.job.Job.TheVariants as jobs
use Rattle.port_io.specs.Counts.{CountsFaults}
use Rattle.port_io.specs.Told.{AppendsPart}
use Rattle.rq_engine.specs.Answers as engine
use Rattle.rq_engine.specs.Jobs.{IsJobOf}
use Rattle.report_text.specs.FaultText.{fault_line}
use Rattle.report_text.specs.ReportText.{report_text}
use Rattle.report_text.specs.declared.report.Report.{Report}
use Rattle.report_text.specs.declared.report.Refusal.TheVariants.{TooLong}
use Rattle.report_text.specs.declared.report.Halt.{Halt}
use Rattle.report_text.specs.declared.report.Halt.TheVariants as halts
use Rattle.rq_words.specs.Requests.{Reads}
use Rattle.rq_cli.specs.Outcomes.{Stream, OnDone, OnFault, outcome_line, AskSource, WereRead, HasCause, IsAnswered, IsErrorFault, IsFault, WasTried, IsRun}
use Rattle.rq_cli.specs.Steps.{outcome_of, WasTold, WasPrinted}
use Rattle.report_text.specs.declared.report.Fault.{Fault}
use Rattle.report_text.specs.declared.report.Fault.TheVariants as faults
use Rattle.rq_cli.specs.declared.outcome.Outcome.{Outcome}
use Rattle.rq_cli.specs.declared.outcome.Outcome.TheVariants.{Done, Refused, SourceFault, SinkFault, OutOfMemory}

-- a write whose answer isn't looked at
pub tried : {T E : Type 0} (r : Result T E) (before now : Stream) (line : List ℕ) → OnOk r (Appends before.bytes now.bytes line) → OnErr r (AppendsPart before.bytes now.bytes line) → CountsFaults before.faults now.faults r
    → WasTried before now line
tried (Ok x) before now line ok err counted = inl ok
tried (Err e) before now line ok err counted = inr (counted.rose, err)

-- the line of a fault is that of the outcome
pub told_line : (fault : Fault) → fault_line fault ≡ outcome_line (outcome_of fault)
told_line (faults.Halt (halts.Refused refusal)) = refl
told_line other = refl

-- the engine never finds an input too long
never_long : (job : Job) (bytes : List ℕ) → engine.HasCause job bytes (halts.Refused TooLong) → ⊥
never_long jobs.Check bytes cause = cause
never_long job bytes (inl cause) = cause
never_long job bytes (inr lacks) = lacks.cause

-- want of memory needs no cause
pub memory_cause : (job : Job) (bytes : List ℕ) → engine.HasCause job bytes halts.OutOfMemory
memory_cause jobs.Check bytes = tt
memory_cause job bytes = inl tt

-- where words ask for no job that reads the source, theirs doesn't
pub left_alone : (words : List (List ℕ)) (job : Job) → IsJobOf words job → ¬ AskSource words → ¬ Reads job
left_alone words job asked none reads = none (record { job = job; asked = asked; reads = reads })

-- the cause of a halt is that of its outcome
pub halt_cause : (words : List (List ℕ)) (source source' : Stream) (job : Job) (bytes : List ℕ) → WereRead words source source' job bytes → (halt : Halt) → engine.HasCause job bytes halt
    → IsFault words source source' (outcome_of (faults.Halt halt))
halt_cause words source source' job bytes read (halts.Refused TooLong) cause = absurd (never_long job bytes cause)
halt_cause words source source' job bytes read halts.OutOfMemory cause = tt
halt_cause words source source' job bytes read other cause = record { job = job; bytes = bytes; read = read; cause = cause }

keeps : (bytes : Option (List ℕ)) → Keeps bytes bytes
keeps None = tt
keeps (Some xs) = refl

module _ (words : List (List ℕ)) (source source' out out' err err' : Stream) where
  -- a report that was printed, or half of it
  pub printed_run : (report : Report) (outcome : Outcome) → IsAnswered words source source' report → (source.faults < source'.faults → ⊥) → WasPrinted report outcome out out' err err' → IsRun words source source' out out' err err' outcome
  printed_run report outcome answered steady (inl p) =
      subst (IsRun words source source' out out' err err') (sym p.is) (record {
        cause = answered;
        printed = p.printed;
        quiet = p.quiet;
        untouched = tt;
        told = tt;
        source_grew = λ l. absurd (steady l);
        out_grew = λ l. absurd (omega (arith, p.out_counted));
        err_grew = λ l. absurd (omega (arith, p.err_counted));
      })
  printed_run report outcome answered steady (inr p) =
      subst (IsRun words source source' out out' err err') (sym p.is) (record {
        cause = inl (record { report = report; answered = answered; rose = p.rose; part = p.part; tried = p.tried });
        printed = tt;
        quiet = tt;
        untouched = tt;
        told = tt;
        source_grew = λ l. absurd (steady l);
        out_grew = λ _. refl;
        err_grew = λ _. refl;
      })

  -- what holds at every fault holds at one with a cause
  on_fault : (fault : Outcome) (P : Type 0) → P → OnFault fault P
  on_fault (Done _) P h = tt
  on_fault SinkFault P h = tt
  on_fault other P h = h

  not_done : (fault : Outcome) (P : Report → Type 0) → IsFault words source source' fault → OnDone fault P
  not_done (Done report) P h = absurd h
  not_done other P h = tt

  fault_cause : (fault : Outcome) → IsFault words source source' fault → HasCause words source source' out out' err err' fault
  fault_cause (Done _) h = absurd h
  fault_cause SinkFault h = absurd h
  fault_cause other h = h

  -- the line of a fault that was told, or half of it
  pub told_run : (fault outcome : Outcome) → IsFault words source source' fault → (source.faults < source'.faults → fault ≡ SourceFault) → out' ≡ out → WasTold fault outcome err err' → IsRun words source source' out out' err err' outcome
  told_run fault outcome cause grew same (inl p) =
      subst (IsRun words source source' out out' err err') (sym p.is) (record {
        cause = fault_cause fault cause;
        printed = not_done fault (λ report. Appends out.bytes out'.bytes (report_text report)) cause;
        quiet = not_done fault (λ _. Keeps err.bytes err'.bytes) cause;
        untouched = on_fault fault (Keeps out.bytes out'.bytes) (subst (λ (s : Stream). Keeps out.bytes s.bytes) (sym same) (keeps out.bytes));
        told = on_fault fault (Appends err.bytes err'.bytes (outcome_line fault)) p.told;
        source_grew = λ l. inl (grew l);
        out_grew = λ l. absurd (omega (arith, ap (λ (s : Stream). s.faults) same));
        err_grew = λ l. absurd (omega (arith, p.counted));
      })
  told_run fault outcome cause grew same (inr p) =
      subst (IsRun words source source' out out' err err') (sym p.is) (record {
        cause = inr (fault, half);
        printed = tt;
        quiet = tt;
        untouched = tt;
        told = tt;
        source_grew = λ l. inr (refl, subst (IsErrorFault words source source' out out' err err') (grew l) half);
        out_grew = λ _. refl;
        err_grew = λ _. refl;
      })
    where
      half : IsErrorFault words source source' out out' err err' fault
      half = record {
        cause = cause;
        kept = subst (λ (s : Stream). Keeps out.bytes s.bytes) (sym same) (keeps out.bytes);
        counted = ap (λ (s : Stream). s.faults) same;
        rose = p.rose;
        part = p.part;
      }

  -- want of memory in place of a fault
  pub memory_run : (outcome : Outcome) → (source.faults < source'.faults → ⊥) → out' ≡ out → WasTold OutOfMemory outcome err err' → IsRun words source source' out out' err err' outcome
  memory_run outcome steady same told = told_run OutOfMemory outcome tt (λ l. absurd (steady l)) same told
