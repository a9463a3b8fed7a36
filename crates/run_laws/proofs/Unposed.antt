-- Where bytes have a fault, there is no report and no stop of a fit.
use Rattle.std.specs.Prelude.{◌≡◌, ℕ, Bool, is_some, List, Some}
use Rattle.std.proofs.Common.{inl, inr, refl, subst}
use Rattle.loss_model.specs.Problem.{IsWellShaped}
use Rattle.rq_words.specs.declared.job.FitJob.{FitJob}
use Rattle.rq_words.specs.declared.job.Job.{Job}
use Rattle.rq_words.specs.declared.job.Job.TheVariants as jobs
use Rattle.report_text.specs.declared.report.Refusal.{Refusal}
use Rattle.report_text.specs.declared.report.Refusal.TheVariants as refusals
use Rattle.report_text.specs.declared.report.Report.{Report}
use Rattle.report_text.specs.declared.report.Halt.{Halt}
use Rattle.report_text.specs.declared.report.Halt.TheVariants as halts
use Rattle.rq_input.specs.Inputs.{HasInputCause, IsInput}
use Rattle.rq_input.specs.declared.input.Input.{Input}
use Rattle.run_laws.specs.Faults.{InputsHaveNoFault}
use Rattle.rq_words.specs.Requests.{Reads}
use Rattle.rq_cli.specs.Outcomes.{Stream, IsRun, IsAnswered, IsHalted, WereRead}
use Rattle.rq_cli.specs.declared.outcome.Outcome.{Outcome}
use Rattle.run_laws.specs.Completeness.{IsUnposed}
use Rattle.run_laws.specs.NeededOutcomes.{AskFit, table_bytes}
use Rattle.run_laws.proofs.Complete.{report_process, same_table}
use Rattle.run_laws.proofs.FitHalts.{IsUnfit, dependent_of, limit_of, overflow_of}
use Rattle.run_laws.proofs.Jobs.{long_certificate}
use Rattle.run_laws.proofs.Stopless.{unposed_without}

module _ (law : InputsHaveNoFault) (words : List (List ℕ)) (source source' : Stream) (bytes : List ℕ) (first : FitJob) (kind : Bool) (asked : AskFit words first kind) (told : Reads asked.job → source.bytes ≡ Some bytes)
    (faulty : (fit : FitJob) (ranked : Bool) (ask : AskFit words fit ranked) → (refusal : Refusal) × HasInputCause fit ranked (table_bytes ask.job bytes) (halts.Refused refusal)) where
  -- bytes that were read for a fit are no input within the limits
  no_input : (fit : FitJob) (ranked : Bool) (ask : AskFit words fit ranked) (job : Job) (other : List ℕ) → WereRead words source source' job other → (input : Input) → IsInput fit ranked (table_bytes ask.job other) input
      → IsWellShaped input.problem → ⊥
  no_input fit ranked ask job other read input there shaped =
      let fault = faulty fit ranked ask in
      law fit ranked (table_bytes ask.job bytes) input fault.0
      (subst (λ b. IsInput fit ranked b input) (same_table words source source' bytes first kind asked told ask.job ask.asked job other read) there) shaped fault.1

  -- no halt is one of such a fit, nor of its predictions
  stopped : (halt : Halt) → IsUnfit words source source' halt → ⊥
  stopped halt (inl h) = no_input h.fit h.was.ranked h.was.asked h.was.read.0 h.was.bytes h.was.read.1 h.lacks.input h.was.is h.lacks.rows.shaped
  stopped halt (inr h) = no_input h.fit h.was.ranked h.was.asked h.was.read.0 h.was.bytes h.was.read.1 h.lacks.asked.input h.was.is h.lacks.rows.shaped

  reported : (report : Report) → IsAnswered words source source' report → ⊥
  reported report answered =
      let h = report_process words source source' first kind asked report answered in
      let was = h.3.was in
      no_input h.0 was.ranked was.asked was.read.0 was.bytes was.read.1 h.1 was.is h.3.shaped

  too_long : (n : ℕ) → IsHalted words source source' (halts.Refused (refusals.CertTooLong n)) → ⊥
  too_long n h =
      let long = long_certificate words source source' n h in
      let right = long.3.right in
      no_input long.0 (is_some long.0.rank) (record { job = jobs.Certify long.0; asked = long.2.asked; is = (refl, refl) }) (jobs.Certify long.0) long.1 long.2 right.0 right.1 right.2.rows.shaped

  pub unposed : (out out' err err' : Stream) (outcome : Outcome) → IsRun words source source' out out' err err' outcome → IsUnposed outcome
  unposed =
      unposed_without words source source' reported
      (λ combination h. stopped (halts.Refused (refusals.Dependent combination)) (dependent_of words source source' first kind asked combination h))
      too_long
      (λ place limit trail h. stopped (halts.PivotLimit place limit trail) (limit_of words source source' first kind asked place limit trail h))
      (λ place trail spill h. stopped (halts.Overflow place trail spill) (overflow_of words source source' first kind asked place trail spill h))
