-- Outcomes that are answers, told once of all jobs: what is left to show is why no other comes.
use Rattle.std.specs.Prelude.{◌≡◌, ◌≢◌, ◌⊎◌, ℕ, List, Err}
use Rattle.std.proofs.Common.{inl, inr}
use Rattle.loss_model.specs.declared.process.Trail.{Trail}
use Rattle.cert_checker.specs.declared.verdict.Rejection.{Rejection}
use Rattle.lambda_path.specs.Laws.{PathHasCosts}
use Rattle.rq_words.specs.Words.{words_of}
use Rattle.rq_words.specs.declared.job.WordFault.{WordFault}
use Rattle.rq_words.specs.declared.job.Job.{Job}
use Rattle.report_text.specs.declared.report.Place.{Place}
use Rattle.report_text.specs.declared.report.Refusal.{Refusal}
use Rattle.report_text.specs.declared.report.Refusal.TheVariants as refusals
use Rattle.report_text.specs.declared.report.Report.{Report}
use Rattle.report_text.specs.declared.report.Halt.TheVariants as halts
use Rattle.rq_engine.specs.Answers.{IsRight}
use Rattle.rq_engine.specs.Jobs.{IsJobOf}
use Rattle.rq_cli.specs.Outcomes.{IsAnswered, IsErrorFault, IsHalted, IsOutputFault, IsRun, IsTooLong, Stream}
use Rattle.rq_cli.specs.declared.outcome.Outcome.{Outcome}
use Rattle.rq_cli.specs.declared.outcome.Outcome.TheVariants.{Done, Refused, Usage, SourceFault, SinkFault, OutOfMemory, PivotLimit, Overflow, Rejected}
use Rattle.run_laws.specs.Completeness.{IsAnswer, IsNoReport, IsNotTooLong, IsUnfitted, NoneRose}
use Rattle.run_laws.proofs.Needed.{limit_needed, overflow_needed}

module _ (lawful : PathHasCosts) (words : List (List ℕ)) (source source' : Stream) (bytes : List ℕ)
    (asked : (fault : WordFault) → words_of words ≡ Err fault → ⊥)
    (right : (report : Report) → IsAnswered words source source' report → (job : Job) × IsJobOf words job × IsRight job bytes report)
    (short : ¬ IsTooLong words source source')
    (refused : (refusal : Refusal) → ((n : ℕ) → refusal ≢ refusals.CertTooLong n) → ¬ IsHalted words source source' (halts.Refused refusal))
    (rejected : (rejection : Rejection) → ¬ IsHalted words source source' (halts.Rejected rejection)) where
  pub answered_with : (out out' err err' : Stream) (outcome : Outcome) → IsRun words source source' out out' err err' outcome → NoneRose source source' out out' err err' → IsAnswer words source source' bytes outcome
  answered_with out out' err err' outcome run none = by outcome run
    where
      by : (outcome : Outcome) → IsRun words source source' out out' err err' outcome → IsAnswer words source source' bytes outcome
      by (Done report) run = right report run.cause
      by (Refused refusals.TooLong) run = absurd (short run.cause)
      by (Refused (refusals.CertTooLong n)) run = run.cause
      by (Refused refusal) run = absurd (refused refusal (λ n. λ e. cc e) run.cause)
      by (Usage fault) run = absurd (asked fault run.cause)
      by SourceFault run = absurd (none.0 run.cause.1)
      by SinkFault run = failed run.cause
        where
          failed : IsOutputFault words source source' out out' err err' ⊎ ((fault : Outcome) × IsErrorFault words source source' out out' err err' fault) → ⊥
          failed (inl h) = none.1 h.rose
          failed (inr h) = none.2 h.1.rose
      by OutOfMemory run = tt
      by (PivotLimit place limit trail) run = limit_needed lawful words source source' place limit trail run.cause
      by (Overflow place trail spill) run = overflow_needed lawful words source source' place trail spill run.cause
      by (Rejected rejection) run = absurd (rejected rejection run.cause)

-- an outcome is no certificate that is too long where none comes
module _ (words : List (List ℕ)) (source source' : Stream) (short : (n : ℕ) → ¬ IsHalted words source source' (halts.Refused (refusals.CertTooLong n))) where
  pub not_too_long : (out out' err err' : Stream) (outcome : Outcome) → IsRun words source source' out out' err err' outcome → IsNotTooLong outcome
  not_too_long out out' err err' (Refused (refusals.CertTooLong n)) run = short n run.cause
  not_too_long out out' err err' outcome run = tt

-- nor is it a report
module _ (words : List (List ℕ)) (source source' : Stream) (reported : (report : Report) → ¬ IsAnswered words source source' report) where
  pub no_report : (out out' err err' : Stream) (outcome : Outcome) → IsRun words source source' out out' err err' outcome → IsNoReport outcome
  no_report out out' err err' (Done report) run = reported report run.cause
  no_report out out' err err' outcome run = tt

-- nor a limit
module _ (words : List (List ℕ)) (source source' : Stream) (reported : (report : Report) → ¬ IsAnswered words source source' report)
    (limited : (place : Place) (limit : ℕ) (trail : Trail) → ¬ IsHalted words source source' (halts.PivotLimit place limit trail)) where
  pub unfitted_with : (out out' err err' : Stream) (outcome : Outcome) → IsRun words source source' out out' err err' outcome → IsUnfitted outcome
  unfitted_with out out' err err' (Done report) run = reported report run.cause
  unfitted_with out out' err err' (PivotLimit place limit trail) run = limited place limit trail run.cause
  unfitted_with out out' err err' outcome run = tt
