-- Where words ask for a fit, of which fit a halt is; and so what comes where its limit is reached, or its columns are dependent.
use Rattle.std.specs.Prelude.{◌⊎◌, ℕ, ◌≤◌, Bool, is_some, List, length, slice_index}
use Rattle.std.proofs.Common.{refl, subst, inl, inr}
use Rattle.rational_laws.specs.Fraction.{Fraction, rational}
use Rattle.rational_laws.specs.Rational.{ℚ}
use Rattle.frac_core.specs.declared.frac128.Frac128.{Frac128}
use Rattle.frac_core.specs.Values.{value}
use Rattle.loss_model.specs.declared.problem.Problem.{Problem}
use Rattle.loss_model.specs.declared.process.Process.{Process}
use Rattle.loss_model.specs.declared.process.Trail.{Trail}
use Rattle.loss_model.specs.declared.spill.Spill.{Spill}
use Rattle.loss_model.specs.FullRank.{HasFullRank}
use Rattle.loss_model.specs.Problem.{sample}
use Rattle.pivot_model.proofs.Solved.{full_rank}
use Rattle.walk_model.specs.WalkTrails.{ReachesProcessLimit}
use Rattle.walk_model.proofs.Trails.{one_process}
use Rattle.tau_process.specs.Processes.{HasResults}
use Rattle.tau_process.specs.Stops.{IsProcessSpill}
use Rattle.stop_laws.proofs.Needed.{dependent, process_full}
use Rattle.cert_checker.specs.declared.verdict.Rejection.{Rejection}
use Rattle.rq_words.specs.declared.job.FitJob.{FitJob}
use Rattle.rq_words.specs.declared.job.Job.TheVariants as jobs
use Rattle.report_text.specs.declared.report.Place.{Place}
use Rattle.report_text.specs.declared.report.Place.TheVariants as places
use Rattle.report_text.specs.declared.report.Refusal.TheVariants as refusals
use Rattle.report_text.specs.declared.report.Halt.{Halt}
use Rattle.report_text.specs.declared.report.Halt.TheVariants as halts
use Rattle.rq_input.specs.Rows.{HasRows}
use Rattle.rq_input.specs.declared.input.Input.{Input}
use Rattle.rq_engine.specs.Asks.{IsFitAsk}
use Rattle.rq_engine.specs.Fit.{IsRightProcess}
use Rattle.rq_engine.specs.Stops.{most}
use Rattle.rq_engine.proofs.Costs.{high_costs, low_costs}
use Rattle.rq_cli.specs.Outcomes.{IsHalted, IsRun, Stream}
use Rattle.rq_cli.specs.declared.outcome.Outcome.{Outcome}
use Rattle.rq_cli.specs.declared.outcome.Outcome.TheVariants.{Done, Refused, PivotLimit, Overflow, Rejected}
use Rattle.run_laws.specs.Completeness.{IsAtProcess, IsDependentOutcome, IsLimitedProblem, IsLimitOutcome, StartOverflows}
use Rattle.run_laws.specs.NeededOutcomes.{AskFit, WasInput}
use Rattle.run_laws.proofs.Complete.{report_process}
use Rattle.run_laws.proofs.Jobs.{IsFitHalt, IsPredictHalt, dependence_lacks, fit_lacks, fitting, limit_lacks, long_certificate, overflow_lacks, rejected_check}

module _ (words : List (List ℕ)) (source source' : Stream) where
  -- the problem of a fit has none, for this halt, or rows no predictions
  abbrev pub IsUnfit : Halt → Type 0
  IsUnfit halt = IsFitHalt words source source' halt ⊎ IsPredictHalt words source source' halt

  module _ (first : FitJob) (kind : Bool) (asked : AskFit words first kind) where
    pub limit_of : (place : Place) (limit : ℕ) (trail : Trail) → IsHalted words source source' (halts.PivotLimit place limit trail) → IsUnfit (halts.PivotLimit place limit trail)
    limit_of place limit trail h = fit_lacks words source source' first kind asked (halts.PivotLimit place limit trail) (limit_lacks words source source' place limit trail h)

    pub overflow_of : (place : Place) (trail : Trail) (spill : Spill Frac128) → IsHalted words source source' (halts.Overflow place trail spill) → IsUnfit (halts.Overflow place trail spill)
    overflow_of place trail spill h = fit_lacks words source source' first kind asked (halts.Overflow place trail spill) (overflow_lacks words source source' place trail spill h)

    pub dependent_of : (combination : List Fraction) → IsHalted words source source' (halts.Refused (refusals.Dependent combination)) → IsUnfit (halts.Refused (refusals.Dependent combination))
    dependent_of combination h = fit_lacks words source source' first kind asked (halts.Refused (refusals.Dependent combination)) (dependence_lacks words source source' combination h)

    -- no fit is rejected
    not_rejected : (rejection : Rejection) → ¬ IsHalted words source source' (halts.Rejected rejection)
    not_rejected rejection h = (fitting words first kind asked jobs.Check (rejected_check words source source' rejection h)).2

    -- the right process of a certificate that is too long
    long_process : (n : ℕ) → IsHalted words source source' (halts.Refused (refusals.CertTooLong n))
        → (fit : FitJob) × (input : Input) × (q : Process) × WasInput words source source' fit input × IsRightProcess value fit input.problem q
    long_process n h =
        let long = long_certificate words source source' n h in
        let read = long.2 in
        let right = long.3.right in
        let of = right.2.right in (
          long.0,
          right.0,
          right.2.fit.process,
          record { ranked = is_some long.0.rank; bytes = long.1; asked = record { job = jobs.Certify long.0; asked = read.asked; is = (refl, refl) }; read = (jobs.Certify long.0, read); is = right.1 },
          subst (λ (p : Problem Frac128). IsRightProcess value long.0 p right.2.fit.process) of.under.problem_is of.right.process,
        )

    -- ---- a limit that is reached

    module _ (reaches : (fit : FitJob) (input : Input) → WasInput words source source' fit input → IsLimitedProblem fit input.problem) where
      -- a process at its end within the limit excludes it
      not_ended : (fit : FitJob) → IsFitAsk fit → (input : Input) → HasRows input → WasInput words source source' fit input → (q : Process)
          → HasResults value input.problem (rational (value fit.lo)) (rational (value fit.hi)) q → ¬ (length q.trail.steps ≤ fit.limit)
      not_ended fit ask input rows was q results short =
          let limited = reaches fit input was in
          one_process (sample value input.problem) (rational (value fit.lo)) (rational (value fit.hi)) (low_costs fit ask input rows) (high_costs fit ask input rows) results.now q.trail limited.0 results.basis fit.limit
          results.lawful results.ended short limited.1

      full : (fit : FitJob) (input : Input) → WasInput words source source' fit input → HasFullRank (sample value input.problem)
      full fit input was =
          let limited = reaches fit input was in
          process_full (sample value input.problem) (rational (value fit.lo)) (rational (value fit.hi)) fit.limit limited.0 limited.1

      limit_at : (place : Place) (limit : ℕ) (trail : Trail) → IsUnfit (halts.PivotLimit place limit trail) → IsAtProcess place
      limit_at places.Process limit trail h = tt
      limit_at (places.Interval column tau) limit trail (inl h) = let of = h.lacks.cause in not_ended h.fit h.ask h.lacks.input h.lacks.rows h.was of.process of.results of.short
      limit_at other limit trail (inr h) = h.lacks.cause
      limit_at other limit trail (inl h) = h.lacks.cause

      overflow_at : (place : Place) (trail : Trail) (spill : Spill Frac128) → IsUnfit (halts.Overflow place trail spill) → IsAtProcess place
      overflow_at places.Process trail spill h = tt
      overflow_at (places.Interval column tau) trail spill (inl h) = let of = h.lacks.cause in not_ended h.fit h.ask h.lacks.input h.lacks.rows h.was of.process of.results of.short
      overflow_at other trail spill (inr h) = h.lacks.cause
      overflow_at other trail spill (inl h) = h.lacks.cause

      independent : (combination : List Fraction) → IsUnfit (halts.Refused (refusals.Dependent combination)) → ⊥
      independent combination (inl h) = dependent (sample value h.lacks.input.problem) _ h.lacks.cause.dependence (full h.fit h.lacks.input h.was)
      independent combination (inr h) = dependent (sample value h.lacks.asked.input.problem) _ h.lacks.cause.dependence (full h.fit h.lacks.asked.input h.was)

      pub limited : (out out' err err' : Stream) (outcome : Outcome) → IsRun words source source' out out' err err' outcome → IsLimitOutcome IsAtProcess outcome
      limited out out' err err' (Done report) run = let h = report_process words source source' first kind asked report run.cause in h.3.right.unlimited (reaches h.0 h.1 h.3.was)
      limited out out' err err' (PivotLimit place limit trail) run = limit_at place limit trail (limit_of place limit trail run.cause)
      limited out out' err err' (Overflow place trail spill) run = overflow_at place trail spill (overflow_of place trail spill run.cause)
      limited out out' err err' (Refused (refusals.Dependent combination)) run = independent combination (dependent_of combination run.cause)
      limited out out' err err' (Refused (refusals.CertTooLong n)) run = let h = long_process n run.cause in h.4.unlimited (reaches h.0 h.1 h.3)
      limited out out' err err' (Rejected rejection) run = not_rejected rejection run.cause
      limited out out' err err' outcome run = tt

    -- ---- dependent columns

    module _ (ranked : (fit : FitJob) (input : Input) → WasInput words source source' fit input → ¬ HasFullRank (sample value input.problem)) where
      -- a walk that is at its end stands at a basis
      no_results : (fit : FitJob) (input : Input) → WasInput words source source' fit input → (lo hi : ℚ) (q : Process) → ¬ HasResults value input.problem lo hi q
      no_results fit input was lo hi q results = ranked fit input was (full_rank (sample value input.problem) (slice_index results.basis) results.ended.a results.ended.is_basis)

      -- so an overflow of the process is one in the start
      in_process : (fit : FitJob) (input : Input) → WasInput words source source' fit input → (lo hi : ℚ) (limit : ℕ) (trail : Trail) (spill : Spill Frac128)
          → IsProcessSpill value most input.problem lo hi limit trail spill → StartOverflows words source source' trail spill
      in_process fit input was lo hi limit trail spill (inl start) = (fit, input, was, start)
      in_process fit input was lo hi limit trail spill (inr (inl h)) = absurd (ranked fit input was (full_rank (sample value input.problem) (slice_index h.basis) h.here.a h.here.is_basis))
      in_process fit input was lo hi limit trail spill (inr (inr h)) = absurd (ranked fit input was (full_rank (sample value input.problem) (slice_index h.basis) h.here.a h.here.is_basis))

      -- no limit is reached
      unlimited : (place : Place) (limit : ℕ) (trail : Trail) → ¬ IsHalted words source source' (halts.PivotLimit place limit trail)
      unlimited place limit trail h = by (limit_of place limit trail h)
        where
          reached : (fit : FitJob) (input : Input) → WasInput words source source' fit input → ReachesProcessLimit (sample value input.problem) (rational (value fit.lo)) (rational (value fit.hi)) fit.limit trail → ⊥
          reached fit input was h = ranked fit input was (process_full (sample value input.problem) (rational (value fit.lo)) (rational (value fit.hi)) fit.limit trail h)

          at : (place : Place) → IsFitHalt words source source' (halts.PivotLimit place limit trail) → ⊥
          at places.Process h = reached h.fit h.lacks.input h.was h.lacks.cause.1
          at (places.Interval column tau) h = no_results h.fit h.lacks.input h.was _ _ h.lacks.cause.process h.lacks.cause.results
          at other h = h.lacks.cause

          at_rows : (place : Place) → IsPredictHalt words source source' (halts.PivotLimit place limit trail) → ⊥
          at_rows places.Process h = reached h.fit h.lacks.asked.input h.was h.lacks.cause.1
          at_rows other h = h.lacks.cause

          by : IsUnfit (halts.PivotLimit place limit trail) → ⊥
          by (inl h) = at place h
          by (inr h) = at_rows place h

      in_start : (place : Place) (trail : Trail) (spill : Spill Frac128) → IsUnfit (halts.Overflow place trail spill) → IsDependentOutcome words source source' (Overflow place trail spill)
      in_start places.Process trail spill (inl h) = in_process h.fit h.lacks.input h.was _ _ _ trail spill h.lacks.cause
      in_start places.Process trail spill (inr h) = in_process h.fit h.lacks.asked.input h.was _ _ _ trail spill h.lacks.cause
      in_start (places.Interval column tau) trail spill (inl h) = no_results h.fit h.lacks.input h.was _ _ h.lacks.cause.process h.lacks.cause.results
      in_start other trail spill (inr h) = h.lacks.cause
      in_start other trail spill (inl h) = h.lacks.cause

      pub unfitted : (out out' err err' : Stream) (outcome : Outcome) → IsRun words source source' out out' err err' outcome → IsDependentOutcome words source source' outcome
      unfitted out out' err err' (Done report) run = let h = report_process words source source' first kind asked report run.cause in no_results h.0 h.1 h.3.was _ _ h.2 h.3.right.results
      unfitted out out' err err' (PivotLimit place limit trail) run = unlimited place limit trail run.cause
      unfitted out out' err err' (Overflow place trail spill) run = in_start place trail spill (overflow_of place trail spill run.cause)
      unfitted out out' err err' (Refused (refusals.CertTooLong n)) run = let h = long_process n run.cause in no_results h.0 h.1 h.3 _ _ h.2 h.4.results
      unfitted out out' err err' (Rejected rejection) run = not_rejected rejection run.cause
      unfitted out out' err err' outcome run = tt
