-- A certificate whose conditions are all true is accepted.
use Rattle.std.specs.Prelude.{◌≡◌, ◌⊎◌, ℕ, List}
use Rattle.std.proofs.Common.{refl, sym, subst, ◌∙◌, inl, inr}
use Rattle.cert_text.specs.Laws.{SameContent}
use Rattle.cert_text.specs.declared.cert.Cert.{Cert}
use Rattle.rq_words.specs.Requests.{request_of}
use Rattle.rq_words.specs.declared.job.Job.{Job}
use Rattle.rq_words.specs.declared.job.Job.TheVariants as jobs
use Rattle.report_text.specs.declared.report.Refusal.{Refusal}
use Rattle.report_text.specs.declared.report.Refusal.TheVariants as refusals
use Rattle.report_text.specs.declared.report.Halt.{Halt}
use Rattle.report_text.specs.declared.report.Halt.TheVariants as halts
use Rattle.rq_engine.specs.Answers as engine
use Rattle.rq_engine.specs.Answers.{IsRight}
use Rattle.rq_engine.specs.Jobs.{IsJobOf}
use Rattle.rq_cli.specs.Outcomes.{Stream, IsRun, IsHalted, IsOutputFault, IsErrorFault, WereRead}
use Rattle.rq_cli.specs.declared.outcome.Outcome.{Outcome}
use Rattle.rq_cli.specs.declared.outcome.Outcome.TheVariants.{Done, Refused, Usage, SourceFault, SinkFault, OutOfMemory, PivotLimit, Overflow, Rejected}
use Rattle.run_laws.specs.Certificates.{IsUndecided}
use Rattle.run_laws.proofs.Checking.{one_report, undecided}
use Rattle.run_laws.specs.Completeness.{NoneRose, IsPassing, IsAccepted}
use Rattle.run_laws.proofs.Complete.{none_beyond, were_told}
use Rattle.run_laws.proofs.Jobs.{one_request}

-- words that ask for a check ask for no other job
check_alone : (job : Job) → request_of job ≡ request_of jobs.Check → job ≡ jobs.Check
check_alone jobs.Check same = refl
check_alone other same = absurd (cc same)

module _ (same : SameContent) (words : List (List ℕ)) (source source' : Stream) (bytes : List ℕ) (cert : Cert) (w : IsPassing words source bytes cert) where
  is_check : (job : Job) → IsJobOf words job → job ≡ jobs.Check
  is_check job asked = check_alone job (one_request words job jobs.Check asked w.asked)

  -- the bytes that were read are these
  same_bytes : (job : Job) (other : List ℕ) → WereRead words source source' job other → other ≡ bytes
  same_bytes job other read =
      let checked : WereRead words source source' jobs.Check other = subst (λ (job : Job). WereRead words source source' job other) (is_check job read.asked) read in
      were_told source source' bytes w.told other checked.taken

  -- a halt of the run is one of the check of these bytes
  halted : (halt : Halt) → IsHalted words source source' halt → IsUndecided halt
  halted halt h =
      undecided same bytes cert w.is w.sound halt
      (subst (λ b. engine.HasCause jobs.Check b halt) (same_bytes h.job h.bytes h.read)
      (subst (λ (job : Job). engine.HasCause job h.bytes halt) (is_check h.job h.read.asked) h.cause))

  not_refused : (refusal : Refusal) → IsHalted words source source' (halts.Refused refusal) → ⊥
  not_refused refusal h = halted (halts.Refused refusal) h

  pub accepted : (out out' err err' : Stream) (outcome : Outcome) → IsRun words source source' out out' err err' outcome → NoneRose source source' out out' err err' → IsAccepted cert outcome
  accepted out out' err err' outcome run none = by outcome run
    where
      by : (outcome : Outcome) → IsRun words source source' out out' err err' outcome → IsAccepted cert outcome
      by (Done report) run =
          let a = run.cause in
          one_report same bytes cert w.is w.sound report
          (subst (λ b. IsRight jobs.Check b report) (same_bytes a.job a.bytes a.read)
          (subst (λ (job : Job). IsRight job a.bytes report) (is_check a.job a.read.asked) a.right))
      by (Refused refusals.TooLong) run = absurd (none_beyond source source' bytes w.told w.short run.cause.came)
      by (Refused refusal) run = absurd (not_refused refusal run.cause)
      by (Usage fault) run = absurd (cc (sym run.cause ∙ w.asked))
      by SourceFault run = absurd (none.0 run.cause.1)
      by SinkFault run = failed run.cause
        where
          failed : IsOutputFault words source source' out out' err err' ⊎ ((fault : Outcome) × IsErrorFault words source source' out out' err err' fault) → ⊥
          failed (inl h) = none.1 h.rose
          failed (inr h) = none.2 h.1.rose
      by OutOfMemory run = tt
      by (PivotLimit place limit trail) run = absurd (halted (halts.PivotLimit place limit trail) run.cause)
      by (Overflow place trail spill) run = absurd (halted (halts.Overflow place trail spill) run.cause)
      by (Rejected rejection) run = absurd (halted (halts.Rejected rejection) run.cause)
