-- What stops a run was needed.
use Rattle.std.specs.Prelude.{◌≡◌, ℕ, ◌*◌, Bool, List, [], ◌∷◌}
use Rattle.std.proofs.Common.{refl, sym, subst, inl, inr}
use Rattle.rational_laws.specs.Fraction.{Fraction, rational}
use Rattle.frac_core.specs.declared.frac128.Frac128.{Frac128}
use Rattle.frac_core.specs.Values.{value}
use Rattle.loss_model.specs.declared.problem.Problem.{Problem}
use Rattle.loss_model.specs.declared.process.Trail.{Trail}
use Rattle.loss_model.specs.declared.spill.Spill.{Spill}
use Rattle.loss_model.specs.declared.stop.Stop.TheVariants as stops
use Rattle.loss_model.specs.FullRank.{HasFullRank}
use Rattle.loss_model.specs.Problem.{sample}
use Rattle.pivot_model.specs.Duals.{HasCosts}
use Rattle.walk_model.specs.WalkTrails.{ReachesProcessLimit, ReachesIntervalLimit}
use Rattle.pivot_laws.specs.BoundLaws.{further_bases}
use Rattle.stop_laws.proofs.Needed.{below, dependent}
use Rattle.stop_laws.specs.NeededStops.{DoesOverflow}
use Rattle.stop_laws.proofs.Spilled.{of_process, operation, start}
use Rattle.stop_laws.proofs.IntervalsNeeded.{interval_needed}
use Rattle.stop_laws.proofs.IntervalsSpilled.{of_interval}
use Rattle.pivot_laws.proofs.Bounds.{process_within}
use Rattle.lambda_path.specs.Laws.{PathHasCosts}
use Rattle.nested_test.specs.Restricted.{restricted_problem}
use Rattle.rank_inversion.specs.Stops.{IsBound}
use Rattle.tv_penalty.specs.Operations.{OverflowsFirst, SitedOperation}
use Rattle.rq_words.specs.declared.job.FitJob.{FitJob}
use Rattle.rq_words.specs.declared.job.Job.TheVariants as jobs
use Rattle.rq_words.specs.declared.job.PathJob.{PathJob}
use Rattle.rq_words.specs.declared.job.TestJob.{TestJob}
use Rattle.report_text.specs.declared.report.Place.{Place}
use Rattle.report_text.specs.declared.report.Place.TheVariants as places
use Rattle.report_text.specs.declared.report.Refusal.TheVariants.{Dependent}
use Rattle.report_text.specs.declared.report.Halt.TheVariants.{Refused, PivotLimit, Overflow}
use Rattle.rq_input.specs.Rows.{HasRows}
use Rattle.rq_input.specs.declared.input.Input.{Input}
use Rattle.rq_engine.specs.Asks.{IsFitAsk}
use Rattle.rq_engine.specs.Stops.{HasStoppedInterval, most}
use Rattle.rq_engine.proofs.Costs.{low_costs}
use Rattle.rq_engine.proofs.Pathing.{low_costs as path_costs}
use Rattle.rq_engine.proofs.Testing.{data_stays, input_data, restricted_low}
use Rattle.rq_engine.specs.Answers.{LacksFit, LacksPathFit, LacksPredictFit, LacksTestFit}
use Rattle.rq_engine.proofs.Asked.{asked_job}
use Rattle.rq_cli.specs.Outcomes.{Stream, IsHalted, WereRead}
use Rattle.run_laws.specs.NeededOutcomes.{IsLimitedAt, ReachesItsIntervalLimit, ReachesItsLimit, ReachesLimitAt, WasInput, WasPosed, WasWhole}
use Rattle.rq_input.proofs.PlainInputs.{plain_rows}
use Rattle.rq_input.proofs.TestedInputs.{ranked_rows}
use Rattle.run_laws.proofs.AskedIntervals.{asked_there, critical_there, inner_costs}
use Rattle.run_laws.proofs.Jobs.{Lacks, NoFit, NoPath, NoPredictions, NoTest, NoVerdict, dependence_lacks, limit_lacks, overflow_lacks}

-- ---- a limit

reached_process : (fit : FitJob) (problem : Problem Frac128) (limit : ℕ) (trail : Trail) → HasCosts (sample value problem) (rational (value fit.lo)) → limit ≡ fit.limit
    → ReachesProcessLimit (sample value problem) (rational (value fit.lo)) (rational (value fit.hi)) fit.limit trail → ReachesItsLimit fit problem limit trail
reached_process fit problem limit trail costs shown h =
    let there = subst (λ n. ReachesProcessLimit (sample value problem) (rational (value fit.lo)) (rational (value fit.hi)) n trail) (sym shown) h in
    record {
      shown = shown;
      reached = there;
      below = below (2 * further_bases (sample value problem)) limit (ReachesProcessLimit (sample value problem) (rational (value fit.lo)) (rational (value fit.hi)) limit trail) there
          (λ long. process_within (sample value problem) (rational (value fit.lo)) (rational (value fit.hi)) limit trail costs long);
    }

reached_interval : (fit : FitJob) (input : Input) (column : ℕ) (tau : Frac128) (limit : ℕ) (trail : Trail) → IsFitAsk fit → HasRows input → HasStoppedInterval fit input.problem column tau (stops.PivotLimit limit trail)
    → ReachesItsIntervalLimit fit input.problem column tau limit trail
reached_interval fit input column tau limit trail ask rows h =
    let cause = h.1.cause in
    let asked = asked_there input.problem.columns fit.rank ask.rank h.1.earlier _ h.1.later h.1.order in
    let critical = critical_there input.problem.columns fit.rank h.1.earlier _ h.1.later h.1.order in
    record {
      shown = cause.0;
      rank = critical.0;
      asked = critical.1;
      bound = cause.1.0;
      critical = subst (λ (crit : Frac128). IsBound value input.problem column (rational (value tau)) (rational (value crit)) cause.1.0) critical.2 cause.1.1;
      reached = subst (λ n. ReachesIntervalLimit (sample value input.problem) (rational (value tau)) column cause.1.0 n trail) (sym cause.0) cause.1.2;
      below =
          interval_needed value most input.problem column (rational (value tau)) (rational (value h.0)) fit.limit (stops.PivotLimit limit trail) (inner_costs input (rational (value tau)) asked.1 rows) asked.0 cause;
    }

reached : (fit : FitJob) (ranked : Bool) (bytes : List ℕ) (place : Place) (limit : ℕ) (trail : Trail) → IsFitAsk fit → (h : LacksFit fit ranked bytes (PivotLimit place limit trail))
    → ReachesLimitAt place fit h.input.problem limit trail
reached fit ranked bytes places.Process limit trail ask h = reached_process fit h.input.problem limit trail (low_costs fit ask h.input h.rows) h.cause.0 h.cause.1
reached fit ranked bytes (places.Interval column tau) limit trail ask h = reached_interval fit h.input column tau limit trail ask h.rows h.cause.stopped
reached fit ranked bytes other limit trail ask h = absurd h.cause

predict_reached : (fit : FitJob) (bytes : List ℕ) (place : Place) (limit : ℕ) (trail : Trail) → IsFitAsk fit → (h : LacksPredictFit fit bytes (PivotLimit place limit trail))
    → ReachesLimitAt place fit h.asked.input.problem limit trail
predict_reached fit bytes places.Process limit trail ask h = reached_process fit h.asked.input.problem limit trail (low_costs fit ask h.asked.input h.rows) h.cause.0 h.cause.1
predict_reached fit bytes other limit trail ask h = absurd h.cause

-- ---- the costs of a path

-- the first of their operations that overflows
of_first : (operations : List SitedOperation) (s : Spill Frac128) → OverflowsFirst operations s → DoesOverflow value most s
of_first [] s h = absurd h
of_first (o ∷ os) s (inl h) = operation value most s h
of_first (o ∷ os) s (inr h) = of_first os s h.1

-- a job and its bytes, of which the input was read
module _ (lawful : PathHasCosts) (words : List (List ℕ)) (source source' : Stream) where
  abbrev IsDependentInput : Type 0
  IsDependentInput = (fit : FitJob) × (input : Input) × WasWhole words source source' fit input × ¬ HasFullRank (sample value input.problem)

  -- the problem of an input is one that is posed
  posed : (fit : FitJob) (input : Input) → WasInput words source source' fit input → WasPosed words source source' fit input.problem
  posed fit input was = inl (input, was, refl)

  -- so is that of an input without tested columns
  test_limited : (job : TestJob) (bytes : List ℕ) → WereRead words source source' (jobs.Test job) bytes → (place : Place) (limit : ℕ) (trail : Trail) → LacksTestFit job bytes (PivotLimit place limit trail)
      → IsLimitedAt words source source' place limit trail
  test_limited job bytes read places.Process limit trail h =
      let q = restricted_problem job.tested h.input.problem in
      let are_data = input_data h.input h.rows (ranked_rows job.fit bytes h.input h.is.is) in
      let costs = restricted_low job.fit (asked_job words (jobs.Test job) read.asked).0.unit h.input.problem job.tested q refl are_data (data_stays h.input.problem) in (
        job.fit,
        q,
        inr (inl (record { job = job; same = refl; input = h.input; was = record { bytes = bytes; read = read; is = h.is }; without = refl })),
        reached_process job.fit q limit trail costs h.cause.1.0 h.cause.1.1,
      )
  test_limited job bytes read (places.Interval column tau) limit trail h = absurd h.cause.1
  test_limited job bytes read other limit trail h = absurd h.cause.1

  -- so is that of a path
  path_limited : (job : PathJob) (bytes : List ℕ) → WereRead words source source' (jobs.Path job) bytes → (place : Place) (limit : ℕ) (trail : Trail) → LacksPathFit job bytes (PivotLimit place limit trail)
      → IsLimitedAt words source source' place limit trail
  path_limited job bytes read places.Process limit trail h =
      let lacks = h.cause.1 in
      let table = h.is.0 in
      let by = h.is.2 in
      let costs = path_costs job (asked_job words (jobs.Path job) read.asked).0 h.plain h.rows (plain_rows job.fit table by.model h.plain.input by.by) lacks.problem lacks.path lawful in (
        job.fit,
        lacks.problem,
        inr (inr (record { job = job; same = refl; bytes = bytes; read = read; plain = h.plain; is = h.is; path = lacks.path })),
        reached_process job.fit lacks.problem limit trail costs h.cause.0 lacks.cause,
      )
  path_limited job bytes read (places.Interval column tau) limit trail h = absurd h.cause
  path_limited job bytes read other limit trail h = absurd h.cause

  pub limit_needed : (place : Place) (limit : ℕ) (trail : Trail) → IsHalted words source source' (PivotLimit place limit trail) → IsLimitedAt words source source' place limit trail
  limit_needed place limit trail h = by (limit_lacks words source source' place limit trail h)
    where
      by : Lacks words source source' (PivotLimit place limit trail) → IsLimitedAt words source source' place limit trail
      by (NoFit h) = (h.fit, h.lacks.input.problem, posed h.fit h.lacks.input h.was, reached h.fit h.ranked h.bytes place limit trail h.ask h.lacks)
      by (NoPredictions h) = (h.fit, h.lacks.asked.input.problem, posed h.fit h.lacks.asked.input h.was, predict_reached h.fit h.bytes place limit trail h.ask h.lacks)
      by (NoTest h) = test_limited h.job h.bytes h.read place limit trail h.lacks
      by (NoPath h) = path_limited h.job h.bytes h.read place limit trail h.lacks
      by (NoVerdict h) = absurd h.cause

  -- ---- dependent columns

  pub dependence_needed : (combination : List Fraction) → IsHalted words source source' (Refused (Dependent combination)) → IsDependentInput
  dependence_needed combination h = by (dependence_lacks words source source' combination h)
    where
      by : Lacks words source source' (Refused (Dependent combination)) → IsDependentInput
      by (NoFit h) = (h.fit, h.lacks.input, inl h.was, dependent (sample value h.lacks.input.problem) _ h.lacks.cause.dependence)
      by (NoPredictions h) = (h.fit, h.lacks.asked.input, inl h.was, dependent (sample value h.lacks.asked.input.problem) _ h.lacks.cause.dependence)
      by (NoTest h) =
          (h.job.fit, h.lacks.input, inr (h.job, refl, record { bytes = h.bytes; read = h.read; is = h.lacks.is }), dependent (sample value h.lacks.input.problem) _ h.lacks.cause.dependence)
      by (NoPath h) = absurd h.lacks.cause
      by (NoVerdict h) = absurd h.cause

  -- ---- an overflow

  pub overflow_needed : (place : Place) (trail : Trail) (spill : Spill Frac128) → IsHalted words source source' (Overflow place trail spill) → DoesOverflow value most spill
  overflow_needed place trail spill h = by place (overflow_lacks words source source' place trail spill h)
    where
      by : (place : Place) → Lacks words source source' (Overflow place trail spill) → DoesOverflow value most spill
      by places.Process (NoFit h) = of_process value most spill h.lacks.input.problem _ _ _ trail h.lacks.cause
      by places.Process (NoPredictions h) = of_process value most spill h.lacks.asked.input.problem _ _ _ trail h.lacks.cause
      by places.Process (NoTest h) = of_process value most spill (restricted_problem h.job.tested h.lacks.input.problem) _ _ _ trail h.lacks.cause
      by places.Process (NoPath h) = of_process value most spill h.lacks.cause.problem _ _ _ trail h.lacks.cause.cause
      by (places.Interval column tau) (NoFit h) =
          of_interval value most spill h.lacks.input.problem column (rational (value tau)) (rational (value h.lacks.cause.stopped.0)) h.fit.limit trail h.lacks.cause.stopped.1.cause
      by places.Full (NoTest h) = start value most spill h.lacks.input.problem trail h.lacks.cause
      by places.Path (NoPath h) = of_first _ spill h.lacks.cause.2
      by place (NoVerdict h) = absurd h.cause
      by place (NoFit h) = absurd h.lacks.cause
      by place (NoPredictions h) = absurd h.lacks.cause
      by place (NoTest h) = absurd h.lacks.cause
      by place (NoPath h) = absurd h.lacks.cause
