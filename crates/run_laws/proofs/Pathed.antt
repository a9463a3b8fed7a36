-- A job that asks for a path is answered; and where its bytes have a fault, there is no report and no stop.
use Rattle.std.specs.Prelude.{◌≡◌, ℕ, ◌<◌, ◌≤◌, List, Some}
use Rattle.std.proofs.Common.{arith, inl, inr, refl, sym, subst, ◌∙◌}
use Rattle.rational_laws.specs.Fraction.{Fraction}
use Rattle.frac_core.specs.Limits.{most_rows}
use Rattle.frac_core.specs.declared.frac128.Frac128.{Frac128}
use Rattle.loss_model.specs.declared.problem.Problem.{Problem}
use Rattle.loss_model.specs.declared.process.Trail.{Trail}
use Rattle.loss_model.specs.declared.spill.Spill.{Spill}
use Rattle.loss_model.specs.Problem.{IsWellShaped}
use Rattle.lambda_path.specs.Laws.{PathHasCosts}
use Rattle.rq_words.specs.declared.job.FitJob.{FitJob}
use Rattle.rq_words.specs.declared.job.Job.{Job}
use Rattle.rq_words.specs.declared.job.Job.TheVariants as jobs
use Rattle.rq_words.specs.declared.job.PathJob.{PathJob}
use Rattle.cert_checker.specs.declared.verdict.Rejection.{Rejection}
use Rattle.rq_program.specs.declared.fault.ProgramFault.TheVariants as programs
use Rattle.report_text.specs.declared.report.PathFit.{PathFit}
use Rattle.report_text.specs.declared.report.Place.{Place}
use Rattle.report_text.specs.declared.report.Place.TheVariants as places
use Rattle.report_text.specs.declared.report.Refusal.{Refusal}
use Rattle.report_text.specs.declared.report.Refusal.TheVariants as refusals
use Rattle.report_text.specs.declared.report.Report.{Report}
use Rattle.report_text.specs.declared.report.Report.TheVariants as reports
use Rattle.report_text.specs.declared.report.Halt.{Halt}
use Rattle.report_text.specs.declared.report.Halt.TheVariants as halts
use Rattle.rq_input.specs.Plain.{HasPlainCause, IsPlain}
use Rattle.rq_input.specs.declared.plain.PlainInput.{PlainInput}
use Rattle.rq_input.proofs.PlainInputs.{plain_input}
use Rattle.run_laws.specs.Faults.{PlainInputsHaveNoFault}
use Rattle.rq_engine.specs.Paths.{IsPathProblem}
use Rattle.rq_engine.specs.Answers as engine
use Rattle.rq_engine.specs.Answers.{HasPathFitCause, IsPathFitOfBytes, IsRight, LacksPathFit}
use Rattle.rq_engine.specs.Jobs.{IsJobOf}
use Rattle.rq_cli.specs.Outcomes.{IsAnswered, IsHalted, IsRun, IsTooLong, Stream, WereRead}
use Rattle.rq_cli.specs.declared.outcome.Outcome.{Outcome}
use Rattle.rq_cli.specs.declared.outcome.Outcome.TheVariants.{Done, Refused, PivotLimit, Overflow, Rejected}
use Rattle.run_laws.specs.Completeness.{HasPathFault, IsAnswer, IsAtPath, IsAtProcess, IsLimitedProblem, IsLimitOutcome, IsNotTooLong, IsPathed, IsUnposed, NoneRose, path_rows}
use Rattle.run_laws.specs.NeededOutcomes.{WasPath}
use Rattle.run_laws.proofs.Answering.{answered_with, not_too_long}
use Rattle.run_laws.proofs.Complete.{none_beyond, were_told}
use Rattle.run_laws.proofs.Jobs.{second_of}
use Rattle.run_laws.proofs.OnlyJob.{only_halted, only_reported}
use Rattle.run_laws.proofs.Stopless.{unposed_without}

-- the only report of a path
right_path : (job : PathJob) (bytes : List ℕ) (report : Report) → IsRight (jobs.Path job) bytes report → (fit : PathFit) × IsPathFitOfBytes job bytes fit
right_path job bytes (reports.Path f) right = (f, right)
right_path job bytes report right = absurd right

-- the rows of a path's problem are those of the records and of the penalties
few_rows : (job : PathJob) (plain : PlainInput) (q : Problem Frac128) → IsPathProblem job plain q → IsWellShaped q → path_rows plain ≤ most_rows
few_rows job plain q path shaped = subst (λ n. n ≤ most_rows) path.rows shaped.rows

-- an input that has no path and is refused has too many rows
many_rows : (job : PathJob) (bytes : List ℕ) (refusal : Refusal) (lacks : LacksPathFit job bytes (halts.Refused refusal)) → most_rows < path_rows lacks.plain
many_rows job bytes (refusals.Program programs.TooManyRows) lacks = lacks.cause
many_rows job bytes refusal lacks = absurd lacks.cause

module _ (words : List (List ℕ)) (first : PathJob) (asked : IsJobOf words (jobs.Path first)) where
  -- words that ask for a path ask for no other job
  alone : (job : Job) → IsJobOf words job → (P : Job → Type 0) → ((path : PathJob) → P (jobs.Path path)) → P job
  alone (jobs.Path path) again P p = p path
  alone job again P p = absurd (cc (sym again ∙ asked))

  module _ (source source' : Stream) where
    -- so a halt of these words is one of a path
    halted : (halt : _) → IsHalted words source source' halt → (job : PathJob) × (bytes : List ℕ) × WereRead words source source' (jobs.Path job) bytes × engine.HasCause (jobs.Path job) bytes halt
    halted = only_halted jobs.Path words alone source source'

    -- and so is a report
    reported : (report : Report) → IsAnswered words source source' report → (job : PathJob) × (bytes : List ℕ) × WereRead words source source' (jobs.Path job) bytes × IsRight (jobs.Path job) bytes report
    reported = only_reported jobs.Path words alone source source'

    -- where the input isn't its cause, it is that an input has no path
    lacking : (halt : Halt) → ((job : PathJob) (other : List ℕ) → ¬ HasPlainCause job.fit other halt) → IsHalted words source source' halt
        → (job : PathJob) × (other : List ℕ) × WereRead words source source' (jobs.Path job) other × LacksPathFit job other halt
    lacking halt none h = let p = halted halt h in (p.0, p.1, p.2, second_of p.3 (none p.0 p.1))

    -- so it is of a limit and of an overflow
    limit_lacking : (place : Place) (limit : ℕ) (trail : Trail) → IsHalted words source source' (halts.PivotLimit place limit trail)
        → (job : PathJob) × (other : List ℕ) × WereRead words source source' (jobs.Path job) other × LacksPathFit job other (halts.PivotLimit place limit trail)
    limit_lacking place limit trail = lacking (halts.PivotLimit place limit trail) (λ job other cause. cause.2.cause)

    overflow_lacking : (place : Place) (trail : Trail) (spill : Spill Frac128) → IsHalted words source source' (halts.Overflow place trail spill)
        → (job : PathJob) × (other : List ℕ) × WereRead words source source' (jobs.Path job) other × LacksPathFit job other (halts.Overflow place trail spill)
    overflow_lacking place trail spill = lacking (halts.Overflow place trail spill) (λ job other cause. cause.2.cause)

    -- no path is refused for dependent columns, none of them has a certificate, and none is rejected
    independent : (combination : List Fraction) → ¬ IsHalted words source source' (halts.Refused (refusals.Dependent combination))
    independent combination h = (lacking (halts.Refused (refusals.Dependent combination)) (λ job other cause. cause.2.cause) h).3.cause

    too_long : (n : ℕ) → ¬ IsHalted words source source' (halts.Refused (refusals.CertTooLong n))
    too_long n h = (lacking (halts.Refused (refusals.CertTooLong n)) (λ job other cause. cause.2.cause) h).3.cause

    never_rejected : (rejection : Rejection) → ¬ IsHalted words source source' (halts.Rejected rejection)
    never_rejected rejection h = (lacking (halts.Rejected rejection) (λ job other cause. cause.2.cause) h).3.cause

    -- ---- limits

    -- a limit is one of the process
    limit_at : (place : Place) (limit : ℕ) (trail : Trail) → IsHalted words source source' (halts.PivotLimit place limit trail) → IsAtProcess place
    limit_at place limit trail h = by place (limit_lacking place limit trail h).3
      where
        by : {job : PathJob} {bytes : List ℕ} (place : Place) → LacksPathFit job bytes (halts.PivotLimit place limit trail) → IsAtProcess place
        by places.Process h = tt
        by other h = h.cause

    -- and an overflow one of the costs or of the process
    overflow_at : (place : Place) (trail : Trail) (spill : Spill Frac128) → IsHalted words source source' (halts.Overflow place trail spill) → IsAtPath place
    overflow_at place trail spill h = by place (overflow_lacking place trail spill h).3
      where
        by : {job : PathJob} {bytes : List ℕ} (place : Place) → LacksPathFit job bytes (halts.Overflow place trail spill) → IsAtPath place
        by places.Process h = tt
        by places.Path h = tt
        by other h = h.cause

    module _ (reaches : (fit : FitJob) (problem : Problem Frac128) → WasPath words source source' fit problem → IsLimitedProblem fit problem) where
      none : (report : Report) → ¬ IsAnswered words source source' report
      none report a =
          let r = reported report a in
          let fit = right_path r.0 r.1 report r.3 in
          let of = fit.1.2 in
          of.process.unlimited (reaches r.0.fit fit.0.problem (record { job = r.0; same = refl; bytes = r.1; read = r.2; plain = fit.1.0; is = fit.1.1; path = of.path }))

      pub path_limited : (out out' err err' : Stream) (outcome : Outcome) → IsRun words source source' out out' err err' outcome → IsLimitOutcome IsAtPath outcome
      path_limited out out' err err' (Done report) run = none report run.cause
      path_limited out out' err err' (PivotLimit place limit trail) run = limit_at place limit trail run.cause
      path_limited out out' err err' (Overflow place trail spill) run = overflow_at place trail spill run.cause
      path_limited out out' err err' (Refused (refusals.Dependent combination)) run = independent combination run.cause
      path_limited out out' err err' (Refused (refusals.CertTooLong n)) run = too_long n run.cause
      path_limited out out' err err' (Rejected rejection) run = never_rejected rejection run.cause
      path_limited out out' err err' outcome run = tt

    -- ---- faults

    module _ (law : PlainInputsHaveNoFault) (bytes : List ℕ) (told : source.bytes ≡ Some bytes) (faulty : (job : PathJob) → IsJobOf words (jobs.Path job) → HasPathFault job bytes) where
      -- bytes that were read for a path are no input within the limits
      no_input : (job : PathJob) (other : List ℕ) → WereRead words source source' (jobs.Path job) other → (plain : PlainInput) → IsPlain job.fit other plain → IsWellShaped plain.input.problem → path_rows plain ≤ most_rows → ⊥
      no_input job other read plain is shaped few = by (faulty job read.asked)
        where
          here : IsPlain job.fit bytes plain
          here = subst (λ b. IsPlain job.fit b plain) (were_told source source' bytes told other read.taken) is

          by : HasPathFault job bytes → ⊥
          by (inl h) = law job.fit bytes plain.input h.0 (plain_input job.fit here.0 here.2.model plain.input here.2.by bytes here.1) shaped h.1
          by (inr many) = let over = many plain here in omega (arith, over, few)

      no_stop : (job : PathJob) (other : List ℕ) → WereRead words source source' (jobs.Path job) other → (place : Place) (limit : ℕ) (trail : Trail) → LacksPathFit job other (halts.PivotLimit place limit trail) → ⊥
      no_stop job other read places.Process limit trail h = let lacks = h.cause.1 in no_input job other read h.plain h.is h.rows.shaped (few_rows job h.plain lacks.problem lacks.path lacks.shaped)
      no_stop job other read rest limit trail h = h.cause

      no_spill : (job : PathJob) (other : List ℕ) → WereRead words source source' (jobs.Path job) other → (place : Place) (trail : Trail) (spill : Spill Frac128) → LacksPathFit job other (halts.Overflow place trail spill) → ⊥
      no_spill job other read places.Process trail spill h = let lacks = h.cause in no_input job other read h.plain h.is h.rows.shaped (few_rows job h.plain lacks.problem lacks.path lacks.shaped)
      no_spill job other read places.Path trail spill h = no_input job other read h.plain h.is h.rows.shaped h.cause.1
      no_spill job other read rest trail spill h = h.cause

      no_path : (report : Report) → IsAnswered words source source' report → ⊥
      no_path report a =
          let r = reported report a in
          let fit = right_path r.0 r.1 report r.3 in
          let of = fit.1.2 in
          no_input r.0 r.1 r.2 fit.1.0 fit.1.1 of.input (few_rows r.0 fit.1.0 fit.0.problem of.path of.shaped)

      pub path_unposed : (out out' err err' : Stream) (outcome : Outcome) → IsRun words source source' out out' err err' outcome → IsUnposed outcome
      path_unposed =
          unposed_without words source source' no_path independent too_long
          (λ place limit trail h. let p = limit_lacking place limit trail h in no_stop p.0 p.1 p.2 place limit trail p.3)
          (λ place trail spill h. let p = overflow_lacking place trail spill h in no_spill p.0 p.1 p.2 place trail spill p.3)

-- ---- an answer

module _ (lawful : PathHasCosts) (words : List (List ℕ)) (source source' : Stream) (bytes : List ℕ) (w : IsPathed words source bytes) where
  whole : (job : PathJob) (other : List ℕ) → WereRead words source source' (jobs.Path job) other → other ≡ bytes
  whole job other read = were_told source source' bytes w.told other read.taken

  short : ¬ IsTooLong words source source'
  short h = none_beyond source source' bytes w.told w.short h.came

  refused : (refusal : Refusal) → ¬ IsHalted words source source' (halts.Refused refusal)
  refused refusal h = by (subst (λ b. HasPathFitCause p.0 b (halts.Refused refusal)) (whole p.0 p.1 p.2) p.3)
    where
      p : (job : PathJob) × (other : List ℕ) × WereRead words source source' (jobs.Path job) other × HasPathFitCause job other (halts.Refused refusal)
      p = halted words w.first w.asked source source' (halts.Refused refusal) h

      by : HasPathFitCause p.0 bytes (halts.Refused refusal) → ⊥
      by (inl cause) = w.sound p.0 refusal p.2.asked cause
      by (inr lacks) =
          let few = w.few p.0 lacks.plain p.2.asked lacks.is in
          let many = many_rows p.0 bytes refusal lacks in
          omega (arith, few, many)

  right : (report : Report) → IsAnswered words source source' report → (job : Job) × IsJobOf words job × IsRight job bytes report
  right report a =
      let r = reported words w.first w.asked source source' report a in
      (jobs.Path r.0, r.2.asked, subst (λ b. IsRight (jobs.Path r.0) b report) (whole r.0 r.1 r.2) r.3)

  pub path_answered : (out out' err err' : Stream) (outcome : Outcome) → IsRun words source source' out out' err err' outcome → NoneRose source source' out out' err err'
      → IsAnswer words source source' bytes outcome × IsNotTooLong outcome
  path_answered out out' err err' outcome run none = (
    answered_with lawful words source source' bytes (λ fault unasked. cc (sym unasked ∙ w.asked)) right short (λ refusal long. refused refusal) (never_rejected words w.first w.asked source source') out out' err err' outcome run none,
    not_too_long words source source' (too_long words w.first w.asked source source') out out' err err' outcome run,
  )
