-- Law. At a basis there is one walking step at most, so a process, and an interval, has one lawful trail.
use Rattle.std.specs.Prelude.{◌≡◌, ℕ, ◌+◌, ◌≤◌, Bool, List, [], ◌∷◌, ◌++◌, length, slice_index, slice_set}
use Rattle.rational_laws.specs.Fraction.{Fraction}
use Rattle.rational_laws.specs.Rational.{ℚ}
use Rattle.loss_model.specs.declared.process.Exchange.{Exchange}
use Rattle.loss_model.specs.declared.process.Trail.{Trail}
use Rattle.loss_model.specs.Sample.{Sample}
use Rattle.pivot_model.specs.Basis.{IsBasis}
use Rattle.pivot_model.specs.Duals.{HasCosts}
use Rattle.pivot_model.specs.Trails.{EndsAt, AtBasis, basis_after}
use Rattle.walk_model.specs.Families.{Family, over_quantiles, theta_of}
use Rattle.walk_model.specs.Walks.{IsWalkingStep}
use Rattle.walk_model.specs.WalkTrails.{theta_value, AreWalkingSteps, value_after, IsWalkEnd, is_below, IsProcessTrail}
use Rattle.walk_model.specs.WalkTrails.{ReachesProcessLimit, IsIntervalTrail, HasRisen, HasFallen, ReachesIntervalLimit}

-- a walk goes on with the walking step of the basis to which it has led
abbrev pub StepsMore : Type 0
StepsMore =
    (when : Fraction → ℚ) (f : Family) (reach : ℚ → Bool) (from : ℚ) (basis : List ℕ) (steps : List Exchange) (x : Exchange)
    → AreWalkingSteps when f reach from basis steps
    → AtBasis f.sample (basis_after basis steps) (λ a. IsWalkingStep f (slice_index (basis_after basis steps)) a reach (value_after when f reach from steps)
    (when x.theta) x.position x.row)
    → AreWalkingSteps when f reach from basis (steps ++ x ∷ [])
    × (basis_after basis (steps ++ x ∷ []) ≡ slice_set (basis_after basis steps) x.position x.row)
    × (value_after when f reach from (steps ++ x ∷ []) ≡ when x.theta)

-- at a basis and a value of the parameter there is one walking step at most
abbrev pub WalkingStepIsUnique : Type 0
WalkingStepIsUnique =
    (f : Family) (at : ℕ → ℕ) (a b : ℕ → ℕ → ℚ) (reach : ℚ → Bool) (from t u : ℚ) (j r k s : ℕ)
    → IsBasis f.sample at a → IsBasis f.sample at b → EndsAt f.sample.columns a → EndsAt f.sample.columns b
    → HasCosts f.sample (theta_of f t) → IsWalkingStep f at a reach from t j r → IsWalkingStep f at b reach from u k s
    → (t ≡ u) × (j ≡ k) × (r ≡ s)

-- so a process that has come to its end within a limit excludes a trail that goes on
abbrev pub ProcessTrailIsUnique : Type 0
ProcessTrailIsUnique =
    (p : Sample) (lo hi now : ℚ) (trail other : Trail) (basis : List ℕ) (limit : ℕ) → HasCosts p lo → HasCosts p hi
    → IsProcessTrail p lo hi trail basis now
    → IsWalkEnd (theta_value) (over_quantiles p) (is_below hi) now basis
    → length trail.steps ≤ limit → ¬ ReachesProcessLimit p lo hi limit other

-- and so does an interval of which both walks are at their ends
abbrev pub IntervalTrailIsUnique : Type 0
IntervalTrailIsUnique =
    (p : Sample) (tau bound : ℚ) (c : ℕ) (trail other : Trail) (basis : List ℕ) (limit : ℕ) → HasCosts p tau
    → IsIntervalTrail p tau c bound trail basis → HasRisen p tau c bound trail basis
    → HasFallen p tau c bound trail basis → length trail.steps + length trail.rise + length trail.fall ≤ limit
    → ¬ ReachesIntervalLimit p tau c bound limit other
