-- Where bytes have a fault as predictions, nothing is predicted, and no fit stops.
use Rattle.std.specs.Prelude.{◌≡◌, ℕ, List, Some}
use Rattle.std.proofs.Common.{sym, subst, ◌∙◌}
use Rattle.loss_model.specs.Problem.{IsWellShaped}
use Rattle.rq_words.specs.declared.job.FitJob.{FitJob}
use Rattle.rq_words.specs.declared.job.Job.{Job}
use Rattle.rq_words.specs.declared.job.Job.TheVariants as jobs
use Rattle.report_text.specs.declared.report.Refusal.{Refusal}
use Rattle.report_text.specs.declared.report.Refusal.TheVariants as refusals
use Rattle.report_text.specs.declared.report.Report.{Report}
use Rattle.report_text.specs.declared.report.Report.TheVariants as reports
use Rattle.report_text.specs.declared.report.Halt.{Halt}
use Rattle.report_text.specs.declared.report.Halt.TheVariants as halts
use Rattle.rq_input.specs.Predictions.{HasPredictionCause, IsPrediction}
use Rattle.rq_input.specs.declared.predictions.PredictionInput.{PredictionInput}
use Rattle.run_laws.specs.Faults.{PredictionsHaveNoFault}
use Rattle.rq_engine.specs.Answers as engine
use Rattle.rq_engine.specs.Answers.{IsRight}
use Rattle.rq_engine.specs.Jobs.{IsJobOf}
use Rattle.rq_cli.specs.Outcomes.{Stream, IsRun, IsAnswered, IsHalted, WereRead}
use Rattle.rq_cli.specs.declared.outcome.Outcome.{Outcome}
use Rattle.run_laws.specs.Completeness.{IsUnposed}
use Rattle.run_laws.proofs.Complete.{were_told}
use Rattle.run_laws.proofs.Jobs.{second_of}
use Rattle.run_laws.proofs.Stopless.{unposed_without}

module _ (law : PredictionsHaveNoFault) (words : List (List ℕ)) (source source' : Stream) (bytes : List ℕ) (first : FitJob) (asked : IsJobOf words (jobs.Predict first)) (told : source.bytes ≡ Some bytes)
    (faulty : (fit : FitJob) → IsJobOf words (jobs.Predict fit) → (refusal : Refusal) × HasPredictionCause fit bytes (halts.Refused refusal)) where
  -- words that ask for predictions ask for no other job
  alone : (job : Job) → IsJobOf words job → (P : Job → Type 0) → ((fit : FitJob) → P (jobs.Predict fit)) → P job
  alone (jobs.Predict fit) again P p = p fit
  alone job again P p = absurd (cc (sym again ∙ asked))

  -- bytes that were read ask for none within the limits
  no_rows : (fit : FitJob) (other : List ℕ) → WereRead words source source' (jobs.Predict fit) other → (rows : PredictionInput) → IsPrediction fit other rows → IsWellShaped rows.input.problem → ⊥
  no_rows fit other read rows is shaped =
      let fault = faulty fit read.asked in
      law fit bytes rows fault.0 (subst (λ b. IsPrediction fit b rows) (were_told source source' bytes told other read.taken) is) shaped fault.1

  halted : (halt : Halt) → ((fit : FitJob) (other : List ℕ) → ¬ HasPredictionCause fit other halt) → IsHalted words source source' halt → ⊥
  halted halt none h =
      alone h.job h.read.asked (λ (job : Job). WereRead words source source' job h.bytes → engine.HasCause job h.bytes halt → ⊥)
      (λ fit read cause. let lacks = second_of cause (none fit h.bytes) in no_rows fit h.bytes read lacks.asked lacks.is lacks.rows.shaped) h.read h.cause

  -- and none has a certificate
  too_long : (n : ℕ) → IsHalted words source source' (halts.Refused (refusals.CertTooLong n)) → ⊥
  too_long n h = alone h.job h.read.asked (λ (job : Job). engine.HasCause job h.bytes (halts.Refused (refusals.CertTooLong n)) → ⊥) (λ fit cause. (second_of cause (λ unread. unread.2.cause)).cause) h.cause

  right_predicts : (fit : FitJob) (other : List ℕ) (report : Report) → WereRead words source source' (jobs.Predict fit) other → IsRight (jobs.Predict fit) other report → ⊥
  right_predicts fit other (reports.Predict f) read right = no_rows fit other read right.0 right.1 right.2.shaped
  right_predicts fit other rest read right = right

  reported : (report : Report) → IsAnswered words source source' report → ⊥
  reported report a =
      alone a.job a.read.asked (λ (job : Job). WereRead words source source' job a.bytes → IsRight job a.bytes report → ⊥)
      (λ fit read right. right_predicts fit a.bytes report read right) a.read a.right

  pub unpredicted : (out out' err err' : Stream) (outcome : Outcome) → IsRun words source source' out out' err err' outcome → IsUnposed outcome
  unpredicted =
      unposed_without words source source' reported (λ combination. halted (halts.Refused (refusals.Dependent combination)) (λ fit other cause. cause.2.cause)) too_long
      (λ place limit trail. halted (halts.PivotLimit place limit trail) (λ fit other cause. cause.2.cause))
      (λ place trail spill. halted (halts.Overflow place trail spill) (λ fit other cause. cause.2.cause))
