-- Each stop of a rank interval was needed.
use Rattle.std.specs.Prelude.{ℕ, ◌*◌, ◌<◌}
use Rattle.std.proofs.Common.{sym, subst}
use Rattle.rational_laws.specs.Fraction.{Fraction}
use Rattle.rational_laws.specs.Rational.{ℚ}
use Rattle.loss_model.specs.declared.problem.Problem.{Problem}
use Rattle.loss_model.specs.declared.stop.Stop.{Stop}
use Rattle.loss_model.specs.declared.stop.Stop.TheVariants.{OutOfMemory, PivotLimit, Overflow, Dependent}
use Rattle.loss_model.specs.Problem.{sample}
use Rattle.pivot_model.specs.Duals.{HasCosts}
use Rattle.walk_model.specs.WalkTrails.{ReachesIntervalLimit}
use Rattle.pivot_laws.specs.BoundLaws.{further_bases}
use Rattle.pivot_laws.proofs.Bounds.{interval_within}
use Rattle.stop_laws.specs.NeededStops.{IsNeeded}
use Rattle.stop_laws.proofs.Needed.{below, dependent}
use Rattle.rank_inversion.specs.Stops.{IsIntervalStop}
use Rattle.stop_laws.proofs.IntervalsSpilled.{of_interval}

module _ {F : Type 0} (value : F → Fraction) (range : ℕ) (p : Problem F) (j : ℕ) (tau crit : ℚ) (limit : ℕ) where
  pub interval_needed : (stop : Stop F) → HasCosts (sample value p) tau → j < p.columns → IsIntervalStop value range p j tau crit limit stop → IsNeeded value range p (3 * further_bases (sample value p)) stop
  interval_needed OutOfMemory costs lj h = tt
  interval_needed (PivotLimit shown trail) costs lj h =
      below (3 * further_bases (sample value p)) shown (ReachesIntervalLimit (sample value p) tau j h.1.0 shown trail)
      (subst (λ n. ReachesIntervalLimit (sample value p) tau j h.1.0 n trail) (sym h.0) h.1.2)
      (λ long. interval_within (sample value p) tau j h.1.0 shown trail costs lj long)
  interval_needed (Overflow trail spill) costs lj h = of_interval value range spill p j tau crit limit trail h
  interval_needed (Dependent combination) costs lj h = dependent (sample value p) _ h.dependence
