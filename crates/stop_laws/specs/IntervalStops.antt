-- Law. A stop of a rank interval was needed.
use Rattle.std.specs.Prelude.{ℕ, ◌*◌, ◌<◌}
use Rattle.rational_laws.specs.Fraction.{Fraction}
use Rattle.rational_laws.specs.Rational.{ℚ}
use Rattle.loss_model.specs.declared.problem.Problem.{Problem}
use Rattle.loss_model.specs.declared.stop.Stop.{Stop}
use Rattle.loss_model.specs.Problem.{sample}
use Rattle.pivot_model.specs.Duals.{HasCosts}
use Rattle.pivot_laws.specs.BoundLaws.{further_bases}
use Rattle.stop_laws.specs.NeededStops.{IsNeeded}
use Rattle.rank_inversion.specs.Stops.{IsIntervalStop}

-- an interval needs no more pivots than three times the bases after the first
abbrev pub IntervalStopIsNeeded : {F : Type 0} → (F → Fraction) → ℕ → Problem F → Type 0
IntervalStopIsNeeded {F} value range p =
    (column : ℕ) (tau crit : ℚ) (limit : ℕ) (stop : Stop F) → HasCosts (sample value p) tau → column < p.columns
    → IsIntervalStop value range p column tau crit limit stop → IsNeeded value range p (3 * further_bases (sample value p)) stop
