-- A job that asks for a rank test is answered; where its bytes have a fault, there is no report and no stop; and what a
-- printed test says.
use Rattle.std.specs.Prelude.{◌≡◌, ℕ, List, Some, length, pos, slice_index}
use Rattle.std.proofs.Common.{arith, inl, inr, refl, sym, subst, ◌∙◌}
use Rattle.rational_laws.specs.Rational.{whole, ◌≤ℚ◌}
use Rattle.rational_laws.specs.Selections.{AreDistinct}
use Rattle.frac_core.specs.declared.frac128.Frac128.{Frac128}
use Rattle.frac_core.specs.Values.{value}
use Rattle.loss_model.specs.declared.problem.Problem.{Problem}
use Rattle.loss_model.specs.declared.process.Trail.{Trail}
use Rattle.loss_model.specs.FullRank.{HasFullRank}
use Rattle.loss_model.specs.Problem.{sample, IsWellShaped}
use Rattle.loss_model.proofs.Vertices.{ascending}
use Rattle.stop_laws.proofs.Needed.{dependent}
use Rattle.lambda_path.specs.Laws.{PathHasCosts}
use Rattle.nested_test.specs.Laws.{StatisticIsSquare}
use Rattle.nested_test.specs.Restricted.{restricted_problem}
use Rattle.rq_words.specs.declared.job.FitJob.{FitJob}
use Rattle.rq_words.specs.declared.job.Job.{Job}
use Rattle.rq_words.specs.declared.job.Job.TheVariants as jobs
use Rattle.rq_words.specs.declared.job.TestJob.{TestJob}
use Rattle.cert_checker.specs.declared.verdict.Rejection.{Rejection}
use Rattle.report_text.specs.declared.report.TestFit.{TestFit}
use Rattle.report_text.specs.declared.report.Place.{Place}
use Rattle.report_text.specs.declared.report.Refusal.{Refusal}
use Rattle.report_text.specs.declared.report.Refusal.TheVariants as refusals
use Rattle.report_text.specs.declared.report.Report.{Report}
use Rattle.report_text.specs.declared.report.Report.TheVariants as reports
use Rattle.report_text.specs.declared.report.Halt.{Halt}
use Rattle.report_text.specs.declared.report.Halt.TheVariants as halts
use Rattle.rq_input.specs.Tested.{AreColumns, HasTestedCause, IsTested}
use Rattle.rq_input.specs.declared.input.Input.{Input}
use Rattle.run_laws.specs.Faults.{TestedHaveNoFault}
use Rattle.rq_engine.specs.Tested.{IsTestFitOf}
use Rattle.rq_engine.specs.Answers as engine
use Rattle.rq_engine.specs.Answers.{HasTestFitCause, IsRight, IsTestFitOfBytes, LacksTestFit}
use Rattle.rq_engine.specs.Jobs.{IsJobOf}
use Rattle.rq_cli.specs.Outcomes.{IsAnswered, IsHalted, IsRun, Stream, WereRead}
use Rattle.rq_cli.specs.declared.outcome.Outcome.{Outcome}
use Rattle.run_laws.specs.Completeness.{IsAnswer, IsLimitedProblem, IsNested, IsNoReport, IsNotTooLong, IsUnfitted, IsUnposed, NoneRose}
use Rattle.run_laws.specs.NeededOutcomes.{WasRestricted, WasTested}
use Rattle.run_laws.specs.TestReports.{IsRightTest}
use Rattle.run_laws.proofs.Answering.{answered_with, no_report, not_too_long, unfitted_with}
use Rattle.run_laws.proofs.Complete.{none_beyond, were_told}
use Rattle.run_laws.proofs.Jobs.{second_of}
use Rattle.run_laws.proofs.OnlyJob.{only_halted, only_reported}
use Rattle.run_laws.proofs.Stopless.{unposed_without}

-- the only report of a rank test
right_test : (job : TestJob) (bytes : List ℕ) (report : Report) → IsRight (jobs.Test job) bytes report → (fit : TestFit) × IsTestFitOfBytes job bytes fit
right_test job bytes (reports.Test f) right = (f, right)
right_test job bytes report right = absurd right

module _ (words : List (List ℕ)) (first : TestJob) (asked : IsJobOf words (jobs.Test first)) where
  -- words that ask for a rank test ask for no other job
  alone : (job : Job) → IsJobOf words job → (P : Job → Type 0) → ((test : TestJob) → P (jobs.Test test)) → P job
  alone (jobs.Test test) again P p = p test
  alone job again P p = absurd (cc (sym again ∙ asked))

  module _ (source source' : Stream) where
    -- so a halt of these words is one of a test
    halted : (halt : Halt) → IsHalted words source source' halt → (job : TestJob) × (bytes : List ℕ) × WereRead words source source' (jobs.Test job) bytes × engine.HasCause (jobs.Test job) bytes halt
    halted = only_halted jobs.Test words alone source source'

    -- and so is a report
    reported : (report : Report) → IsAnswered words source source' report → (job : TestJob) × (bytes : List ℕ) × WereRead words source source' (jobs.Test job) bytes × IsRight (jobs.Test job) bytes report
    reported = only_reported jobs.Test words alone source source'

    -- where the input isn't its cause, it is that an input has no test
    lacking : (halt : Halt) → ((job : TestJob) (other : List ℕ) → ¬ HasTestedCause job other halt) → IsHalted words source source' halt
        → (job : TestJob) × (other : List ℕ) × WereRead words source source' (jobs.Test job) other × LacksTestFit job other halt
    lacking halt none h = let p = halted halt h in (p.0, p.1, p.2, second_of p.3 (none p.0 p.1))

    -- none of them has a certificate
    too_long : (n : ℕ) → ¬ IsHalted words source source' (halts.Refused (refusals.CertTooLong n))
    too_long n h = (lacking (halts.Refused (refusals.CertTooLong n)) (λ job other cause. cause.2.cause) h).3.cause

    -- ---- limits

    pub test_limited : (out out' err err' : Stream) (outcome : Outcome) → IsRun words source source' out out' err err' outcome
        → ((fit : FitJob) (problem : Problem Frac128) → WasRestricted words source source' fit problem → IsLimitedProblem fit problem) → IsNoReport outcome
    test_limited out out' err err' outcome run reaches = no_report words source source' none out out' err err' outcome run
      where
        none : (report : Report) → ¬ IsAnswered words source source' report
        none report a =
            let r = reported report a in
            let fit = right_test r.0 r.1 report r.3 in
            fit.1.2.scored.process.unlimited
            (reaches r.0.fit (restricted_problem r.0.tested fit.1.0.problem) (record { job = r.0; same = refl; input = fit.1.0; was = record { bytes = r.1; read = r.2; is = fit.1.1 }; without = refl }))

    -- ---- dependent columns

    pub test_unfitted : (out out' err err' : Stream) (outcome : Outcome) → IsRun words source source' out out' err err' outcome
        → ((job : TestJob) (input : Input) → WasTested words source source' job input → ¬ HasFullRank (sample value input.problem)) → IsUnfitted outcome
    test_unfitted out out' err err' outcome run dependent = unfitted_with words source source' none limits out out' err err' outcome run
      where
        none : (report : Report) → ¬ IsAnswered words source source' report
        none report a =
            let r = reported report a in
            let fit = right_test r.0 r.1 report r.3 in
            dependent r.0 fit.1.0 (record { bytes = r.1; read = r.2; is = fit.1.1 }) fit.1.2.rank

        limits : (place : Place) (limit : ℕ) (trail : Trail) → ¬ IsHalted words source source' (halts.PivotLimit place limit trail)
        limits place limit trail h =
            let p = lacking (halts.PivotLimit place limit trail) (λ job other cause. cause.2.cause) h in
            dependent p.0 p.3.input (record { bytes = p.1; read = p.2; is = p.3.is }) p.3.cause.0

    -- ---- faults

    module _ (law : TestedHaveNoFault) (bytes : List ℕ) (told : source.bytes ≡ Some bytes) (faulty : (job : TestJob) → IsJobOf words (jobs.Test job) → (refusal : Refusal) × HasTestedCause job bytes (halts.Refused refusal)) where
      -- bytes that were read for a test are no input within the limits
      no_input : (job : TestJob) (other : List ℕ) → WereRead words source source' (jobs.Test job) other → (input : Input) → IsTested job other input → IsWellShaped input.problem → ⊥
      no_input job other read input is shaped =
          let fault = faulty job read.asked in
          law job bytes input fault.0 (subst (λ b. IsTested job b input) (were_told source source' bytes told other read.taken) is) shaped fault.1

      stopped : (halt : Halt) → ((job : TestJob) (other : List ℕ) → ¬ HasTestedCause job other halt) → ¬ IsHalted words source source' halt
      stopped halt none h = let p = lacking halt none h in no_input p.0 p.1 p.2 p.3.input p.3.is p.3.rows.shaped

      no_test : (report : Report) → IsAnswered words source source' report → ⊥
      no_test report a =
          let r = reported report a in
          let fit = right_test r.0 r.1 report r.3 in
          no_input r.0 r.1 r.2 fit.1.0 fit.1.1 fit.1.2.shaped

      pub test_unposed : (out out' err err' : Stream) (outcome : Outcome) → IsRun words source source' out out' err err' outcome → IsUnposed outcome
      test_unposed =
          unposed_without words source source' no_test (λ combination. stopped (halts.Refused (refusals.Dependent combination)) (λ job other cause. cause.2.cause)) too_long
          (λ place limit trail. stopped (halts.PivotLimit place limit trail) (λ job other cause. cause.2.cause))
          (λ place trail spill. stopped (halts.Overflow place trail spill) (λ job other cause. cause.2.cause))

-- ---- an answer

module _ (lawful : PathHasCosts) (words : List (List ℕ)) (source source' : Stream) (bytes : List ℕ) (w : IsNested words source bytes) where
  same_bytes : (job : TestJob) (other : List ℕ) → WereRead words source source' (jobs.Test job) other → other ≡ bytes
  same_bytes job other read = were_told source source' bytes w.told other read.taken

  refused : (refusal : Refusal) → ¬ IsHalted words source source' (halts.Refused refusal)
  refused refusal h = by refusal (subst (λ b. HasTestFitCause p.0 b (halts.Refused refusal)) (same_bytes p.0 p.1 p.2) p.3)
    where
      p : (job : TestJob) × (other : List ℕ) × WereRead words source source' (jobs.Test job) other × HasTestFitCause job other (halts.Refused refusal)
      p = halted words w.first w.asked source source' (halts.Refused refusal) h

      by : (refusal : Refusal) → HasTestFitCause p.0 bytes (halts.Refused refusal) → ⊥
      by refusal (inl cause) = w.sound p.0 refusal p.2.asked cause
      by (refusals.Dependent combination) (inr lacks) = dependent (sample value lacks.input.problem) _ lacks.cause.dependence (w.rank p.0 lacks.input p.2.asked lacks.is)
      by refusal (inr lacks) = lacks.cause

  rejected : (rejection : Rejection) → ¬ IsHalted words source source' (halts.Rejected rejection)
  rejected rejection h = (lacking words w.first w.asked source source' (halts.Rejected rejection) (λ job other cause. cause.2.cause) h).3.cause

  right : (report : Report) → IsAnswered words source source' report → (job : Job) × IsJobOf words job × IsRight job bytes report
  right report a =
      let r = reported words w.first w.asked source source' report a in
      (jobs.Test r.0, r.2.asked, subst (λ b. IsRight (jobs.Test r.0) b report) (same_bytes r.0 r.1 r.2) r.3)

  pub test_answered : (out out' err err' : Stream) (outcome : Outcome) → IsRun words source source' out out' err err' outcome → NoneRose source source' out out' err err'
      → IsAnswer words source source' bytes outcome × IsNotTooLong outcome
  test_answered out out' err err' outcome run none = (
    answered_with lawful words source source' bytes (λ fault unasked. cc (sym unasked ∙ w.asked)) right (λ long. none_beyond source source' bytes w.told w.short long.came)
        (λ refusal long. refused refusal) rejected out out' err err' outcome run none,
    not_too_long words source source' (too_long words w.first w.asked source source') out out' err err' outcome run,
  )

-- ---- a report

distinct : (columns : ℕ) (tested : List ℕ) → AreColumns columns tested → AreDistinct (slice_index tested) (length tested) columns
distinct columns tested are = record {
  within = λ j l. are.within j 0 l;
  apart = λ j k l m e. let below = ascending tested are.ascending j k l m in omega (arith, below, e);
}

right_report : StatisticIsSquare → (job : TestJob) (bytes : List ℕ) (input : Input) → IsTested job bytes input → (fit : TestFit) → IsTestFitOf job input fit → IsRightTest job input fit
right_report square job bytes input is fit of =
    let statistic = of.statistic.statistic in
    record {
      wilcoxon = of.wilcoxon;
      scored = of.scored;
      scores = of.statistic.scores;
      statistic = statistic;
      sign = subst (λ z. whole (pos 0) ≤ℚ z) (sym (statistic.every statistic.v statistic.u statistic.factors))
          (square (sample value input.problem) (slice_index job.tested) (length job.tested) _ statistic.v statistic.u (distinct input.problem.columns job.tested is.columns) statistic.factors).1;
    }

module _ (square : StatisticIsSquare) (words : List (List ℕ)) (source source' : Stream) (fit : TestFit) where
  pub test_right : IsAnswered words source source' (reports.Test fit)
      → (job : TestJob) × (bytes : List ℕ) × (input : Input) × WereRead words source source' (jobs.Test job) bytes × IsTested job bytes input × IsRightTest job input fit
  test_right h = by h.job h.read h.right
    where
      by : (job : Job) → WereRead words source source' job h.bytes → IsRight job h.bytes (reports.Test fit)
          → (job : TestJob) × (bytes : List ℕ) × (input : Input) × WereRead words source source' (jobs.Test job) bytes × IsTested job bytes input × IsRightTest job input fit
      by (jobs.Test job) read right = (job, h.bytes, right.0, read, right.1, right_report square job h.bytes right.0 right.1 fit right.2)
      by job read right = absurd right
