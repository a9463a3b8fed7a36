-- Each stop of a solve and of a process was needed.
use Rattle.std.specs.Prelude.{◌⊎◌, ℕ, ◌*◌, ◌<◌, ◌≤◌, slice_index}
use Rattle.std.proofs.Common.{sym, subst, inl, inr}
use Rattle.std.proofs.lemmas.Bool.{cases_lt}
use Rattle.rational_laws.specs.Fraction.{Fraction}
use Rattle.rational_laws.specs.Rational.{ℚ}
use Rattle.loss_model.specs.declared.problem.Problem.{Problem}
use Rattle.loss_model.specs.declared.process.Trail.{Trail}
use Rattle.loss_model.specs.declared.stop.Stop.{Stop}
use Rattle.loss_model.specs.declared.stop.Stop.TheVariants.{OutOfMemory, PivotLimit, Overflow, Dependent}
use Rattle.loss_model.specs.FullRank.{HasFullRank, IsDependence}
use Rattle.loss_model.specs.Problem.{sample}
use Rattle.loss_model.specs.Sample.{Sample}
use Rattle.pivot_model.specs.Duals.{HasCosts}
use Rattle.pivot_model.specs.Trails.{ReachesLimit}
use Rattle.pivot_model.proofs.Solved.{full_rank}
use Rattle.walk_model.specs.WalkTrails.{ReachesProcessLimit}
use Rattle.tau_process.specs.Solves.{IsSolveStop}
use Rattle.tau_process.specs.Stops.{IsProcessStop}
use Rattle.pivot_laws.specs.BoundLaws.{further_bases}
use Rattle.pivot_laws.proofs.Bounds.{solve_within, process_within}
use Rattle.stop_laws.specs.NeededStops.{IsNeeded}
use Rattle.stop_laws.proofs.Spilled.{of_solve, of_process}

-- what no limit from n on has is below n
pub below : (n limit : ℕ) (P : Type 0) → P → (n ≤ limit → ¬ P) → limit < n
below n limit P h never = by (cases_lt limit n)
  where
    by : (limit < n) ⊎ (n ≤ limit) → limit < n
    by (inl l) = l
    by (inr l) = absurd (never l h)

pub dependent : (p : Sample) (b : ℕ → ℚ) → IsDependence p b → ¬ HasFullRank p
dependent p b h full = h.some (full b h.zero h.column h.within)

module _ {F : Type 0} (value : F → Fraction) (range : ℕ) (p : Problem F) where
  pub solve_needed : (theta : ℚ) (limit : ℕ) (stop : Stop F) → HasCosts (sample value p) theta → IsSolveStop value range p theta limit stop → IsNeeded value range p (further_bases (sample value p)) stop
  solve_needed theta limit OutOfMemory costs h = tt
  solve_needed theta limit (PivotLimit shown trail) costs h =
      below (further_bases (sample value p)) shown (ReachesLimit (sample value p) theta shown trail) (subst (λ n. ReachesLimit (sample value p) theta n trail) (sym h.0) h.1)
      (λ long. solve_within (sample value p) theta costs shown trail long)
  solve_needed theta limit (Overflow trail spill) costs h = of_solve value range spill p theta limit trail h
  solve_needed theta limit (Dependent combination) costs h = dependent (sample value p) _ h.dependence

  pub process_needed : (lo hi : ℚ) (limit : ℕ) (stop : Stop F) → HasCosts (sample value p) lo → IsProcessStop value range p lo hi limit stop → IsNeeded value range p (2 * further_bases (sample value p)) stop
  process_needed lo hi limit OutOfMemory costs h = tt
  process_needed lo hi limit (PivotLimit shown trail) costs h =
      below (2 * further_bases (sample value p)) shown (ReachesProcessLimit (sample value p) lo hi shown trail) (subst (λ n. ReachesProcessLimit (sample value p) lo hi n trail) (sym h.0) h.1)
      (λ long. process_within (sample value p) lo hi shown trail costs long)
  process_needed lo hi limit (Overflow trail spill) costs h = of_process value range spill p lo hi limit trail h
  process_needed lo hi limit (Dependent combination) costs h = dependent (sample value p) _ h.dependence

module _ (p : Sample) where
  pub solve_full : (theta : ℚ) (limit : ℕ) (trail : Trail) → ReachesLimit p theta limit trail → HasFullRank p
  solve_full theta limit trail h = full_rank p (slice_index h.basis) h.more.a h.more.is_basis

  pub process_full : (lo hi : ℚ) (limit : ℕ) (trail : Trail) → ReachesProcessLimit p lo hi limit trail → HasFullRank p
  process_full lo hi limit trail (inl h) = solve_full lo limit trail h
  process_full lo hi limit trail (inr h) = full_rank p (slice_index h.basis) h.more.a h.more.is_basis
