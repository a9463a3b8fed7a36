-- What is to be said of each job, in a table here alone: which of them fit a table as it is, and what a halt says of each.
use Rattle.std.specs.Prelude.{◌≡◌, ◌⊎◌, ℕ, Bool, true, false, is_some, List, length}
use Rattle.std.proofs.Common.{refl, sym, inl, inr, ◌∙◌}
use Rattle.rational_laws.specs.Fraction.{Fraction}
use Rattle.frac_core.specs.declared.frac128.Frac128.{Frac128}
use Rattle.loss_model.specs.declared.process.Trail.{Trail}
use Rattle.loss_model.specs.declared.spill.Spill.{Spill}
use Rattle.cert_checker.specs.declared.verdict.Rejection.{Rejection}
use Rattle.rq_words.specs.Requests.{request_of}
use Rattle.rq_words.specs.declared.job.FitJob.{FitJob}
use Rattle.rq_words.specs.declared.job.Job.{Job}
use Rattle.rq_words.specs.declared.job.Job.TheVariants as jobs
use Rattle.rq_words.specs.declared.job.PathJob.{PathJob}
use Rattle.rq_words.specs.declared.job.TestJob.{TestJob}
use Rattle.report_text.specs.declared.report.Place.{Place}
use Rattle.report_text.specs.declared.report.Refusal.TheVariants.{CertTooLong, Dependent}
use Rattle.report_text.specs.declared.report.Halt.{Halt}
use Rattle.report_text.specs.declared.report.Halt.TheVariants.{Refused, PivotLimit, Overflow, Rejected}
use Rattle.rq_input.specs.Inputs.{HasInputCause}
use Rattle.rq_input.specs.Plain.{HasPlainCause}
use Rattle.rq_input.specs.Predictions.{HasPredictionCause}
use Rattle.rq_input.specs.Tested.{HasTestedCause}
use Rattle.rq_input.specs.declared.input.Input.{Input}
use Rattle.rq_engine.specs.Asks.{IsFitAsk}
use Rattle.rq_engine.specs.Answers as engine
use Rattle.rq_engine.specs.Answers.{HasCertifiedCause, HasFitCause, LacksFit, LacksPathFit, LacksPredictFit, LacksTestFit}
use Rattle.rq_engine.specs.Stops.{HasProblemCause}
use Rattle.rq_engine.specs.Checks.{HasCheckCause}
use Rattle.rq_engine.specs.Jobs.{IsJobOf, sample_fit}
use Rattle.rq_engine.proofs.Asked.{asked_job}
use Rattle.rq_engine.proofs.Scoring.{unit_ask}
use Rattle.rq_cli.specs.Outcomes.{Stream, IsHalted, WereRead}
use Rattle.run_laws.specs.NeededOutcomes.{AskFit, HasLongCertificate, IsFitJob, WasInput, table_bytes}
use Rattle.run_laws.proofs.AskedInputs.{asked_input}

-- ---- words

-- words ask for one request
pub one_request : (words : List (List ℕ)) (job other : Job) → IsJobOf words job → IsJobOf words other → request_of job ≡ request_of other
one_request words job other asked again = cc (sym asked ∙ again)

-- the job fits a table as it is: a check has none, and a rank test and a path have problems of their own
abbrev pub IsFitting : Job → Type 0
IsFitting job = (fit : FitJob) × (ranked : Bool) × IsFitJob job fit ranked

also_fitting : (asker job : Job) → IsFitting asker → request_of asker ≡ request_of job → IsFitting job
also_fitting asker (jobs.Process fit) is same = (fit, is_some fit.rank, (refl, refl))
also_fitting asker (jobs.Ranks fit) is same = (fit, true, (refl, refl))
also_fitting asker (jobs.Certify fit) is same = (fit, is_some fit.rank, (refl, refl))
also_fitting asker (jobs.Predict fit) is same = (fit, true, (refl, refl))
also_fitting asker (jobs.Sample sample) is same = (sample_fit sample, false, (refl, refl))
also_fitting (jobs.Process fit) job is same = absurd (cc same)
also_fitting (jobs.Ranks fit) job is same = absurd (cc same)
also_fitting (jobs.Certify fit) job is same = absurd (cc same)
also_fitting (jobs.Predict fit) job is same = absurd (cc same)
also_fitting (jobs.Sample sample) job is same = absurd (cc same)
also_fitting asker job is same = absurd is.2

-- words that ask for a fit ask for nothing else
pub fitting : (words : List (List ℕ)) (fit : FitJob) (ranked : Bool) → AskFit words fit ranked → (job : Job) → IsJobOf words job → IsFitting job
fitting words fit ranked asked job again = also_fitting asked.job job (fit, ranked, asked.is) (one_request words asked.job job asked.asked again)

-- ---- halts

-- the second of two, where the first can't be
pub second_of : {A B : Type 0} → A ⊎ B → ¬ A → B
second_of (inl a) none = absurd (none a)
second_of (inr b) none = b

module _ (words : List (List ℕ)) (source source' : Stream) where
  -- the problem of this input of a fit has none, for this halt
  pub record IsFitHalt (halt : Halt) : Type 0 where
    pub fit : FitJob
    pub ask : IsFitAsk fit
    pub ranked : Bool
    pub bytes : List ℕ
    pub lacks : LacksFit fit ranked bytes halt
    pub was : WasInput words source source' fit lacks.input

  -- its rows have no predictions
  pub record IsPredictHalt (halt : Halt) : Type 0 where
    pub fit : FitJob
    pub ask : IsFitAsk fit
    pub bytes : List ℕ
    pub lacks : LacksPredictFit fit bytes halt
    pub was : WasInput words source source' fit lacks.asked.input

  -- it has no rank test
  pub record IsTestHalt (halt : Halt) : Type 0 where
    pub job : TestJob
    pub bytes : List ℕ
    pub read : WereRead words source source' (jobs.Test job) bytes
    pub lacks : LacksTestFit job bytes halt

  -- it has no path
  pub record IsPathHalt (halt : Halt) : Type 0 where
    pub job : PathJob
    pub bytes : List ℕ
    pub read : WereRead words source source' (jobs.Path job) bytes
    pub lacks : LacksPathFit job bytes halt

  -- there is no verdict on these bytes
  pub record IsCheckHalt (halt : Halt) : Type 0 where
    pub bytes : List ℕ
    pub read : WereRead words source source' jobs.Check bytes
    pub cause : HasCheckCause bytes halt

  -- what a halt says that comes once the input was read
  pub data Lacks (halt : Halt) : Type 0 where
    NoFit : IsFitHalt halt → Lacks halt
    NoPredictions : IsPredictHalt halt → Lacks halt
    NoTest : IsTestHalt halt → Lacks halt
    NoPath : IsPathHalt halt → Lacks halt
    NoVerdict : IsCheckHalt halt → Lacks halt

  -- a halt of which the input is never the cause
  module _ (halt : Halt)
      (input : (fit : FitJob) (ranked : Bool) (bytes : List ℕ) → ¬ HasInputCause fit ranked bytes halt)
      (tested : (job : TestJob) (bytes : List ℕ) → ¬ HasTestedCause job bytes halt)
      (plain : (fit : FitJob) (bytes : List ℕ) → ¬ HasPlainCause fit bytes halt)
      (prediction : (fit : FitJob) (bytes : List ℕ) → ¬ HasPredictionCause fit bytes halt)
      (certified : (fit : FitJob) (input : Input) → HasCertifiedCause fit input halt → HasProblemCause fit (length input.design.rows) input.problem halt) where
    lacks : IsHalted words source source' halt → Lacks halt
    lacks h = by h.job h.read h.cause
      where
        fit_halt : (fit : FitJob) → IsFitAsk fit → (ranked : Bool) (job : Job) → IsFitJob job fit ranked → WereRead words source source' job h.bytes → HasFitCause fit ranked (table_bytes job h.bytes) halt → Lacks halt
        fit_halt fit ask ranked job is read cause =
            let none = second_of cause (input fit ranked (table_bytes job h.bytes)) in
            NoFit (record {
              fit = fit;
              ask = ask;
              ranked = ranked;
              bytes = table_bytes job h.bytes;
              lacks = none;
              was = record { ranked = ranked; bytes = h.bytes; asked = record { job = job; asked = read.asked; is = is }; read = (job, read); is = none.is };
            })

        by : (job : Job) → WereRead words source source' job h.bytes → engine.HasCause job h.bytes halt → Lacks halt
        by (jobs.Process fit) read cause = fit_halt fit (asked_job words (jobs.Process fit) read.asked).0 (is_some fit.rank) (jobs.Process fit) (refl, refl) read cause
        by (jobs.Ranks fit) read cause = fit_halt fit (unit_ask fit (asked_job words (jobs.Ranks fit) read.asked).0) true (jobs.Ranks fit) (refl, refl) read cause
        by (jobs.Sample job) read cause = fit_halt (sample_fit job) (asked_job words (jobs.Sample job) read.asked).ask false (jobs.Sample job) (refl, refl) read cause
        by (jobs.Certify fit) read cause =
            let none = second_of cause (input fit (is_some fit.rank) h.bytes) in
            fit_halt fit (asked_job words (jobs.Certify fit) read.asked).0 (is_some fit.rank) (jobs.Certify fit) (refl, refl) read
            (inr (record { input = none.input; is = none.is; rows = none.rows; cause = certified fit none.input none.cause }))
        by (jobs.Predict fit) read cause =
            let none = second_of cause (prediction fit h.bytes) in
            NoPredictions (record {
              fit = fit;
              ask = (asked_job words (jobs.Predict fit) read.asked).0;
              bytes = h.bytes;
              lacks = none;
              was = record { ranked = true; bytes = h.bytes; asked = record { job = jobs.Predict fit; asked = read.asked; is = (refl, refl) }; read = (jobs.Predict fit, read); is = asked_input fit h.bytes none.asked none.is };
            })
        by (jobs.Test job) read cause = NoTest (record { job = job; bytes = h.bytes; read = read; lacks = second_of cause (tested job h.bytes) })
        by (jobs.Path job) read cause = NoPath (record { job = job; bytes = h.bytes; read = read; lacks = second_of cause (plain job.fit h.bytes) })
        by jobs.Check read cause = NoVerdict (record { bytes = h.bytes; read = read; cause = cause })

  pub limit_lacks : (place : Place) (limit : ℕ) (trail : Trail) → IsHalted words source source' (PivotLimit place limit trail) → Lacks (PivotLimit place limit trail)
  limit_lacks place limit trail =
      lacks (PivotLimit place limit trail) (λ fit ranked bytes h. h.2.cause) (λ job bytes h. h.2.cause) (λ fit bytes h. h.2.cause) (λ fit bytes h. h.2.cause) (λ fit input h. h)

  pub overflow_lacks : (place : Place) (trail : Trail) (spill : Spill Frac128) → IsHalted words source source' (Overflow place trail spill) → Lacks (Overflow place trail spill)
  overflow_lacks place trail spill =
      lacks (Overflow place trail spill) (λ fit ranked bytes h. h.2.cause) (λ job bytes h. h.2.cause) (λ fit bytes h. h.2.cause) (λ fit bytes h. h.2.cause) (λ fit input h. h)

  pub dependence_lacks : (combination : List Fraction) → IsHalted words source source' (Refused (Dependent combination)) → Lacks (Refused (Dependent combination))
  dependence_lacks combination =
      lacks (Refused (Dependent combination)) (λ fit ranked bytes h. h.2.cause) (λ job bytes h. h.2.cause) (λ fit bytes h. h.2.cause) (λ fit bytes h. h.2.cause) (λ fit input h. h)

  -- a certificate that is too long is one that the words ask for
  pub long_certificate : (n : ℕ) → IsHalted words source source' (Refused (CertTooLong n)) → (fit : FitJob) × (bytes : List ℕ) × WereRead words source source' (jobs.Certify fit) bytes × HasLongCertificate fit bytes n
  long_certificate n h = by h.job h.read h.cause
    where
      by : (job : Job) → WereRead words source source' job h.bytes → engine.HasCause job h.bytes (Refused (CertTooLong n))
          → (fit : FitJob) × (bytes : List ℕ) × WereRead words source source' (jobs.Certify fit) bytes × HasLongCertificate fit bytes n
      by (jobs.Certify fit) read (inr none) = (fit, h.bytes, read, record { cert = none.cause.0; right = (none.input, none.is, none.cause.1); long = none.cause.2 })
      by jobs.Check read cause = absurd cause
      by job read (inl cause) = absurd cause.2.cause
      by job read (inr none) = absurd none.cause

  -- what is rejected was to be checked
  pub rejected_check : (rejection : Rejection) → IsHalted words source source' (Rejected rejection) → IsJobOf words jobs.Check
  rejected_check rejection h = by h.job h.read h.cause
    where
      by : (job : Job) → WereRead words source source' job h.bytes → engine.HasCause job h.bytes (Rejected rejection) → IsJobOf words jobs.Check
      by jobs.Check read cause = read.asked
      by job read (inl cause) = absurd cause.2.cause
      by job read (inr none) = absurd none.cause

  -- where the words ask for a fit, a halt is of one or of predictions
  pub fit_lacks : (first : FitJob) (kind : Bool) → AskFit words first kind → (halt : Halt) → Lacks halt → IsFitHalt halt ⊎ IsPredictHalt halt
  fit_lacks first kind asked halt (NoFit h) = inl h
  fit_lacks first kind asked halt (NoPredictions h) = inr h
  fit_lacks first kind asked halt (NoTest h) = absurd (fitting words first kind asked (jobs.Test h.job) h.read.asked).2
  fit_lacks first kind asked halt (NoPath h) = absurd (fitting words first kind asked (jobs.Path h.job) h.read.asked).2
  fit_lacks first kind asked halt (NoVerdict h) = absurd (fitting words first kind asked jobs.Check h.read.asked).2
