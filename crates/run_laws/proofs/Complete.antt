-- A job whose input is well formed is answered.
use Rattle.std.specs.Prelude.{◌≡◌, ◌≢◌, ℕ, ◌+◌, ◌*◌, ◌<◌, ◌≤◌, Bool, true, false, is_some, List, Some, length}
use Rattle.std.proofs.Common.{arith, inl, inr, refl, sym, subst, ◌∙◌}
use Rattle.frac_core.specs.declared.frac128.Frac128.{Frac128}
use Rattle.frac_core.specs.Values.{value}
use Rattle.loss_model.specs.declared.problem.Problem.{Problem}
use Rattle.loss_model.specs.declared.process.Process.{Process}
use Rattle.loss_model.specs.declared.process.Trail.{Trail}
use Rattle.loss_model.specs.Problem.{sample, IsWellShaped}
use Rattle.port_io.specs.Told.{most_bytes, TakesAll, TakesFirst}
use Rattle.pivot_laws.specs.BoundLaws.{further_bases}
use Rattle.lambda_path.specs.Laws.{PathHasCosts}
use Rattle.rq_words.specs.Requests.{Reads, request_of}
use Rattle.rq_words.specs.declared.job.FitJob.{FitJob}
use Rattle.rq_words.specs.declared.job.Job.{Job}
use Rattle.rq_words.specs.declared.job.Job.TheVariants as jobs
use Rattle.report_text.specs.declared.report.Place.{Place}
use Rattle.report_text.specs.declared.report.Place.TheVariants as places
use Rattle.report_text.specs.declared.report.Refusal.{Refusal}
use Rattle.report_text.specs.declared.report.Refusal.TheVariants as refusals
use Rattle.report_text.specs.declared.report.Fit.{Fit}
use Rattle.cert_checker.specs.declared.verdict.Rejection.{Rejection}
use Rattle.report_text.specs.declared.report.Report.{Report}
use Rattle.report_text.specs.declared.report.Report.TheVariants as reports
use Rattle.report_text.specs.declared.report.Halt.TheVariants as halts
use Rattle.rq_input.specs.Inputs.{IsInput}
use Rattle.rq_input.specs.Predictions.{HasPredictionCause}
use Rattle.rq_input.specs.declared.input.Input.{Input}
use Rattle.rq_engine.specs.Fit.{IsFitOf, IsRightProcess}
use Rattle.rq_engine.specs.Answers as engine
use Rattle.rq_engine.specs.Answers.{IsRight, HasFitCause, HasCertifyCause, HasPredictCause, LacksFit, LacksPredictFit}
use Rattle.rq_engine.specs.Jobs.{IsJobOf, sample_fit}
use Rattle.rq_cli.specs.Outcomes.{Stream, IsRun, IsAnswered, IsHalted, IsTooLong, Takes, WereRead}
use Rattle.rq_cli.specs.declared.outcome.Outcome.{Outcome}
use Rattle.rq_cli.specs.declared.outcome.Outcome.TheVariants.{PivotLimit}
use Rattle.stop_laws.proofs.Needed.{dependent}
use Rattle.run_laws.specs.Completeness.{NoneRose, IsWellFormed, IsAnswer, parts_of}
use Rattle.run_laws.specs.NeededOutcomes.{IsFitJob, AskFit, WasInput, WasPosed, ReachesLimitAt, table_bytes}
use Rattle.run_laws.proofs.AskedInputs.{asked_input}
use Rattle.run_laws.proofs.Answering.{answered_with}
use Rattle.run_laws.proofs.Jobs.{IsFitting, fitting, one_request, rejected_check}
use Rattle.run_laws.proofs.Needed.{limit_needed}

-- ---- words

-- a job of words reads the source where another one of them does
also_reads : (job other : Job) → request_of job ≡ request_of other → Reads other → Reads job
also_reads (jobs.Sample a) (jobs.Sample b) same reads = absurd reads
also_reads (jobs.Sample a) other same reads = absurd (cc same)
also_reads job other same reads = tt

-- a report that is right for bytes is right for others of the same table
right_same : (job : Job) (report : Report) (a b : List ℕ) → table_bytes job a ≡ table_bytes job b → IsRight job a report → IsRight job b report
right_same (jobs.Sample job) (reports.Sample f) a b same h = h
right_same (jobs.Sample job) report a b same h = absurd h
right_same job report a b same h = subst (λ x. IsRight job x report) same h

-- ---- an input that is well formed

module _ (source source' : Stream) (bytes : List ℕ) (told : source.bytes ≡ Some bytes) where
  -- the bytes that were read are those that the source tells
  pub were_told : (other : List ℕ) → TakesAll source.bytes source'.bytes other → other ≡ bytes
  were_told other taken = (subst (λ o. TakesAll o source'.bytes other) told taken).0

  -- and not more came
  pub none_beyond : length bytes ≤ most_bytes → ¬ TakesFirst source.bytes source'.bytes (most_bytes + 1)
  none_beyond few came = let long : most_bytes + 1 ≤ length bytes = (subst (λ o. TakesFirst o source'.bytes (most_bytes + 1)) told came).0 in omega (arith, long, few)

-- what a job that reads the source takes from it
takes_all : (source source' : Stream) (job : Job) (bytes : List ℕ) → Reads job → Takes job source source' bytes → TakesAll source.bytes source'.bytes bytes
takes_all source source' (jobs.Sample job) bytes reads taken = absurd reads
takes_all source source' other bytes reads taken = taken

module _ (words : List (List ℕ)) (source source' : Stream) (bytes : List ℕ) (fit : FitJob) (ranked : Bool) (asked : AskFit words fit ranked) (told : Reads asked.job → source.bytes ≡ Some bytes) where
  -- a job of these words that reads the source takes the bytes that it tells
  pub told_to : (job : Job) → IsJobOf words job → Reads job → source.bytes ≡ Some bytes
  told_to job again reads = told (also_reads asked.job job (one_request words asked.job job asked.asked again) reads)

  -- so the table of a job is that of these bytes
  pub same_table : (asker : Job) → IsJobOf words asker → (job : Job) (other : List ℕ) → WereRead words source source' job other → table_bytes asker other ≡ table_bytes asker bytes
  same_table asker again job other read = by asker again
    where
      whole : (asker : Job) → IsJobOf words asker → Reads asker → other ≡ bytes
      whole asker again reads =
          let here : Reads job = also_reads job asker (one_request words job asker read.asked again) reads in
          were_told source source' bytes (told_to job read.asked here) other (takes_all source source' job other here read.taken)

      by : (asker : Job) → IsJobOf words asker → table_bytes asker other ≡ table_bytes asker bytes
      by (jobs.Sample job) again = refl
      by job again = whole job again tt

module _ (lawful : PathHasCosts) (words : List (List ℕ)) (source source' : Stream) (bytes : List ℕ) (w : IsWellFormed words source bytes) where
  short : ¬ IsTooLong words source source'
  short h =
      none_beyond source source' bytes (told_to words source source' bytes w.fit w.ranked w.asked w.told h.job h.asked h.reads)
      (w.short (also_reads w.asked.job h.job (one_request words w.asked.job h.job w.asked.asked h.asked) h.reads)) h.came

  same_bytes : (job : Job) (other : List ℕ) → WereRead words source source' job other → table_bytes job other ≡ table_bytes job bytes
  same_bytes job other read = same_table words source source' bytes w.fit w.ranked w.asked w.told job read.asked job other read

  sound : (fit : FitJob) (ranked : Bool) (refusal : Refusal) (asked : AskFit words fit ranked) → ¬ HasFitCause fit ranked (table_bytes asked.job bytes) (halts.Refused refusal)
  sound fit ranked refusal asked (inl cause) = w.sound fit ranked asked refusal cause
  sound fit ranked refusal asked (inr lacks) = by refusal lacks
    where
      by : (refusal : Refusal) → ¬ LacksFit fit ranked (table_bytes asked.job bytes) (halts.Refused refusal)
      by (refusals.Dependent combination) h = dependent (sample value h.input.problem) _ h.cause.dependence (w.rank fit ranked h.input asked h.is)
      by refusal h = h.cause

  fit_refused : (fit : FitJob) (ranked : Bool) (job : Job) → IsFitJob job fit ranked → (refusal : Refusal) (other : List ℕ) → WereRead words source source' job other → ¬ HasFitCause fit ranked (table_bytes job other) (halts.Refused refusal)
  fit_refused fit ranked job is refusal other read cause =
      let asked : AskFit words fit ranked = record { job = job; asked = read.asked; is = is } in
      sound fit ranked refusal asked (subst (λ b. HasFitCause fit ranked b (halts.Refused refusal)) (same_bytes job other read) cause)

  -- the certificate that is too long aside, no certificate is refused but as a fit is
  certify_refused : (fit : FitJob) (refusal : Refusal) → ((n : ℕ) → refusal ≢ refusals.CertTooLong n) → (other : List ℕ) → WereRead words source source' (jobs.Certify fit) other → ¬ HasCertifyCause fit other (halts.Refused refusal)
  certify_refused fit refusal short other read cause = by refusal short cause
    where
      none : (refusal : Refusal) → ¬ HasFitCause fit (is_some fit.rank) other (halts.Refused refusal)
      none refusal = fit_refused fit (is_some fit.rank) (jobs.Certify fit) (refl, refl) refusal other read

      by : (refusal : Refusal) → ((n : ℕ) → refusal ≢ refusals.CertTooLong n) → ¬ HasCertifyCause fit other (halts.Refused refusal)
      by (refusals.CertTooLong n) short cause = short n refl
      by refusal short (inl cause) = none refusal (inl cause)
      by refusal short (inr lacks) = none refusal (inr (record { input = lacks.input; is = lacks.is; rows = lacks.rows; cause = lacks.cause }))

  -- predictions are refused neither as a fit is nor as those
  predict_refused : (fit : FitJob) (refusal : Refusal) (other : List ℕ) → WereRead words source source' (jobs.Predict fit) other → ¬ HasPredictCause fit other (halts.Refused refusal)
  predict_refused fit refusal other read (inl cause) =
      w.predicted fit refusal read.asked (subst (λ b. HasPredictionCause fit b (halts.Refused refusal)) (same_bytes (jobs.Predict fit) other read) cause)
  predict_refused fit refusal other read (inr lacks) = by refusal lacks
    where
      by : (refusal : Refusal) → ¬ LacksPredictFit fit other (halts.Refused refusal)
      by (refusals.Dependent combination) h =
          dependent (sample value h.asked.input.problem) _ h.cause.dependence
          (w.rank fit true h.asked.input (record { job = jobs.Predict fit; asked = read.asked; is = (refl, refl) })
          (subst (λ b. IsInput fit true b h.asked.input) (same_bytes (jobs.Predict fit) other read) (asked_input fit other h.asked h.is)))
      by refusal h = h.cause

  not_refused : (refusal : Refusal) → ((n : ℕ) → refusal ≢ refusals.CertTooLong n) → ¬ IsHalted words source source' (halts.Refused refusal)
  not_refused refusal short h = by h.job h.read h.cause
    where
      by : (job : Job) → WereRead words source source' job h.bytes → engine.HasCause job h.bytes (halts.Refused refusal) → ⊥
      by (jobs.Process fit) read cause = fit_refused fit (is_some fit.rank) (jobs.Process fit) (refl, refl) refusal h.bytes read cause
      by (jobs.Ranks fit) read cause = fit_refused fit true (jobs.Ranks fit) (refl, refl) refusal h.bytes read cause
      by (jobs.Certify fit) read cause = certify_refused fit refusal short h.bytes read cause
      by (jobs.Predict fit) read cause = predict_refused fit refusal h.bytes read cause
      by (jobs.Sample job) read cause = fit_refused (sample_fit job) false (jobs.Sample job) (refl, refl) refusal h.bytes read cause
      by job read cause = absurd (fitting words w.fit w.ranked w.asked job read.asked).2

  -- and none is rejected
  not_rejected : (rejection : Rejection) → ¬ IsHalted words source source' (halts.Rejected rejection)
  not_rejected rejection h = (fitting words w.fit w.ranked w.asked jobs.Check (rejected_check words source source' rejection h)).2

  pub answered : (out out' err err' : Stream) (outcome : Outcome) → IsRun words source source' out out' err err' outcome → NoneRose source source' out out' err err' → IsAnswer words source source' bytes outcome
  answered =
      answered_with lawful words source source' bytes (λ fault unasked. cc (sym unasked ∙ w.asked.asked))
      (λ report a. (a.job, a.read.asked, right_same a.job report a.bytes bytes (same_bytes a.job a.bytes a.read) a.right)) short not_refused not_rejected

-- ---- limits

module _ (words : List (List ℕ)) (source source' : Stream) where
  -- the right process of an input that was read
  pub record IsProcessRead (fit : FitJob) (input : Input) (q : Process) : Type 0 where
    pub was : WasInput words source source' fit input
    pub shaped : IsWellShaped input.problem
    pub right : IsRightProcess value fit input.problem q

  abbrev ProcessRead : Type 0
  ProcessRead = (fit : FitJob) × (input : Input) × (q : Process) × IsProcessRead fit input q

  -- where the words ask for a fit, a right report is of such a process
  pub report_process : (first : FitJob) (kind : Bool) → AskFit words first kind → (report : Report) → IsAnswered words source source' report → ProcessRead
  report_process first kind asked report h = by h.job report (fitting words first kind asked h.job h.read.asked) h.read h.right
    where
      was : (fit : FitJob) (input : Input) (ranked : Bool) (job : Job) → IsFitJob job fit ranked → WereRead words source source' job h.bytes → IsInput fit ranked (table_bytes job h.bytes) input → WasInput words source source' fit input
      was fit input ranked job is_job read is =
          record { ranked = ranked; bytes = h.bytes; asked = record { job = job; asked = read.asked; is = is_job }; read = (job, read); is = is }

      of_fit : (fit : FitJob) (input : Input) (f : Fit) → WasInput words source source' fit input → IsFitOf fit input f → ProcessRead
      of_fit fit input f read is = (
        fit,
        input,
        f.process,
        record {
          was = read;
          shaped = subst (λ (p : Problem Frac128). IsWellShaped p) is.under.problem_is is.right.shaped;
          right = subst (λ (p : Problem Frac128). IsRightProcess value fit p f.process) is.under.problem_is is.right.process;
        },
      )

      by : (job : Job) (report : Report) → IsFitting job → WereRead words source source' job h.bytes → IsRight job h.bytes report → ProcessRead
      by (jobs.Process fit) (reports.Process f) fits read right = of_fit fit right.0 f (was fit right.0 (is_some fit.rank) (jobs.Process fit) (refl, refl) read right.1) right.2
      by (jobs.Ranks fit) (reports.Ranks f) fits read right = of_fit fit right.0 f.fit (was fit right.0 true (jobs.Ranks fit) (refl, refl) read right.1) right.2.fit
      by (jobs.Certify fit) (reports.Certificate c) fits read right = of_fit fit right.0.0 right.0.2.fit (was fit right.0.0 (is_some fit.rank) (jobs.Certify fit) (refl, refl) read right.0.1) right.0.2.right
      by (jobs.Sample job) (reports.Sample f) fits read right = of_fit (sample_fit job) right.0 f (was (sample_fit job) right.0 false (jobs.Sample job) (refl, refl) read right.1) right.2
      by (jobs.Predict fit) (reports.Predict f) fits read right = (
        fit,
        right.0.input,
        f.process,
        record {
          was = was fit right.0.input true (jobs.Predict fit) (refl, refl) read (asked_input fit h.bytes right.0 right.1);
          shaped = right.2.shaped;
          right = right.2.process;
        },
      )
      by job report fits read right = absurd search

module _ (lawful : PathHasCosts) (words : List (List ℕ)) (source source' : Stream) where
  -- what a trail that reaches a limit says of it
  limit_below : (place : Place) (fit : FitJob) (problem : Problem Frac128) (limit : ℕ) (trail : Trail) → ReachesLimitAt place fit problem limit trail
      → (limit ≡ fit.limit) × (limit < parts_of place * further_bases (sample value problem))
  limit_below places.Process fit problem limit trail h = (h.shown, h.below)
  limit_below (places.Interval column tau) fit problem limit trail h = (h.shown, h.below)
  limit_below other fit problem limit trail h = absurd h

  pub ample : (out out' err err' : Stream) (place : Place) (limit : ℕ) (trail : Trail)
      → ((fit : FitJob) (problem : Problem Frac128) → WasPosed words source source' fit problem → (parts_of place * further_bases (sample value problem)) ≤ fit.limit)
      → ¬ IsRun words source source' out out' err err' (PivotLimit place limit trail)
  ample out out' err err' place limit trail long run =
      let needed = limit_needed lawful words source source' place limit trail run.cause in
      let enough : (parts_of place * further_bases (sample value needed.1)) ≤ needed.0.limit = long needed.0 needed.1 needed.2 in
      let below = limit_below place needed.0 needed.1 limit trail needed.3 in
      omega (arith, enough, below.0, below.1)
