-- A generated table of full rank is answered.
use Rattle.std.specs.Prelude.{ℕ, Bool, false, List, []}
use Rattle.std.proofs.Common.{refl, sym, subst, ◌∙◌}
use Rattle.frac_core.specs.Values.{value}
use Rattle.loss_model.specs.FullRank.{HasFullRank}
use Rattle.loss_model.specs.Problem.{sample}
use Rattle.rq_words.specs.Requests.{sample_request}
use Rattle.rq_words.specs.declared.job.FitJob.{FitJob}
use Rattle.rq_words.specs.declared.job.Job.{Job}
use Rattle.rq_words.specs.declared.job.Job.TheVariants as jobs
use Rattle.rq_words.specs.declared.job.SampleJob.{SampleJob}
use Rattle.rq_words.proofs.Samples.{words_sample}
use Rattle.report_text.specs.declared.report.Refusal.{Refusal}
use Rattle.report_text.specs.declared.report.Refusal.TheVariants as refusals
use Rattle.report_text.specs.declared.report.Halt.TheVariants as halts
use Rattle.rq_input.specs.Inputs.{HasInputCause, IsInput}
use Rattle.rq_input.specs.declared.input.Input.{Input}
use Rattle.run_laws.specs.Faults.{GeneratedTablesHaveNoFault}
use Rattle.lambda_path.specs.Laws.{PathHasCosts}
use Rattle.rq_engine.specs.Answers as engine
use Rattle.rq_engine.specs.Jobs.{IsJobOf, sample_fit, sample_table}
use Rattle.rq_cli.specs.Outcomes.{Stream, IsRun, IsHalted}
use Rattle.rq_cli.specs.declared.outcome.Outcome.{Outcome}
use Rattle.run_laws.specs.Completeness.{IsAnswer, IsGenerated, IsNotTooLong, IsWellFormed, NoneRose}
use Rattle.run_laws.specs.NeededOutcomes.{AskFit, IsFitJob, table_bytes}
use Rattle.run_laws.proofs.Answering.{not_too_long}
use Rattle.run_laws.proofs.Complete.{answered}
use Rattle.run_laws.proofs.Jobs.{second_of}

module _ (law : GeneratedTablesHaveNoFault) (lawful : PathHasCosts) (words : List (List ℕ)) (g : IsGenerated words) where
  -- words that ask for a generated table ask for no other job
  alone : (job : Job) → IsJobOf words job → (P : Job → Type 0) → ((s : SampleJob) → IsJobOf words (jobs.Sample s) → P (jobs.Sample s)) → P job
  alone (jobs.Sample s) asked P p = p s asked
  alone job asked P p = absurd (cc (sym asked ∙ g.asked))

  -- its bytes have no fault
  table_sound : (s : SampleJob) → IsJobOf words (jobs.Sample s) → (refusal : Refusal) → ¬ HasInputCause (sample_fit s) false (sample_table s) (halts.Refused refusal)
  table_sound s asked refusal =
      let known = words_sample (sample_request s) words asked in
      law (sample_fit s) s.number s.rows s.columns refusal refl refl known.some known.rows known.columns

  sound : (fit : FitJob) (ranked : Bool) (asked : AskFit words fit ranked) (refusal : Refusal) → ¬ HasInputCause fit ranked (table_bytes asked.job []) (halts.Refused refusal)
  sound fit ranked asked refusal =
      alone asked.job asked.asked (λ job. IsFitJob job fit ranked → ¬ HasInputCause fit ranked (table_bytes job []) (halts.Refused refusal))
      (λ s again is. subst (λ f. ¬ HasInputCause f ranked (sample_table s) (halts.Refused refusal)) is.0
      (subst (λ r. ¬ HasInputCause (sample_fit s) r (sample_table s) (halts.Refused refusal)) is.1 (table_sound s again refusal))) asked.is

  rank : (fit : FitJob) (ranked : Bool) (input : Input) (asked : AskFit words fit ranked) → IsInput fit ranked (table_bytes asked.job []) input → HasFullRank (sample value input.problem)
  rank fit ranked input asked =
      alone asked.job asked.asked (λ job. IsFitJob job fit ranked → IsInput fit ranked (table_bytes job []) input → HasFullRank (sample value input.problem))
      (λ s again is. subst (λ f. IsInput f ranked (sample_table s) input → HasFullRank (sample value input.problem)) is.0
      (subst (λ r. IsInput (sample_fit s) r (sample_table s) input → HasFullRank (sample value input.problem)) is.1 (g.rank s input again))) asked.is

  well_formed : (source : Stream) → IsWellFormed words source []
  well_formed source = record {
    fit = sample_fit g.first;
    ranked = false;
    asked = record { job = jobs.Sample g.first; asked = g.asked; is = (refl, refl) };
    told = λ reads. absurd reads;
    short = λ reads. absurd reads;
    sound = sound;
    predicted = λ fit refusal asked. absurd (cc (sym asked ∙ g.asked));
    rank = rank;
  }

  module _ (source source' : Stream) where
    -- and it has no certificate
    short : (n : ℕ) → ¬ IsHalted words source source' (halts.Refused (refusals.CertTooLong n))
    short n h = alone h.job h.read.asked (λ job. engine.HasCause job h.bytes (halts.Refused (refusals.CertTooLong n)) → ⊥) (λ s again cause. (second_of cause (λ unread. unread.2.cause)).cause) h.cause

    pub sample_answered : (out out' err err' : Stream) (outcome : Outcome) → IsRun words source source' out out' err err' outcome → NoneRose source source' out out' err err'
        → IsAnswer words source source' [] outcome × IsNotTooLong outcome
    sample_answered out out' err err' outcome run none =
        (answered lawful words source source' [] (well_formed source) out out' err err' outcome run none, not_too_long words source source' short out out' err err' outcome run)
