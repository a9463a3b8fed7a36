-- Law. The row that enters: one of those that move is the first, and over quantiles there is one as long as
-- the range goes on, so that a walk never sticks.
use Rattle.std.specs.Prelude.{◌≡◌, ◌⊎◌, ℕ, ◌<◌, true, false, pos}
use Rattle.rational_laws.specs.Rational.{ℚ, whole}
use Rattle.loss_model.specs.Sample.{Sample}
use Rattle.pivot_model.specs.Basis.{IsBasis}
use Rattle.pivot_model.specs.declared.direction.Direction.{Direction}
use Rattle.pivot_model.specs.Duals.{HasCosts, ◌<ℚ◌}
use Rattle.pivot_model.specs.Steps.{slope, moves}
use Rattle.walk_model.specs.Families.{over_quantiles}
use Rattle.walk_model.specs.Walks.{IsFirstMover, HasNoBreak, IsNextBreak, IsWalkingStep}
use Rattle.walk_model.specs.WalkTrails.{is_below}

-- there is a first row that moves, or none moves
abbrev pub FirstMoverOrNone : Type 0
FirstMoverOrNone =
    (p : Sample) (at : ℕ → ℕ) (a : ℕ → ℕ → ℚ) (j : ℕ) (d : Direction) → IsBasis p at a
    → ((r : ℕ) × IsFirstMover p at a j d r) ⊎ ((i : ℕ) → i < p.rows → moves p at a j d i ≡ false)

-- where a slope is negative at a quantile with costs, some row moves towards 0
abbrev pub SomeRowMoves : Type 0
SomeRowMoves =
    (p : Sample) (at : ℕ → ℕ) (a : ℕ → ℕ → ℚ) (later : ℚ) (j : ℕ) (d : Direction) → IsBasis p at a → HasCosts p later
    → j < p.columns → slope p at a later j d <ℚ whole (pos 0) → (i : ℕ) × (i < p.rows) × (moves p at a j d i ≡ true)

-- so over quantiles a breakpoint before hi has its step
abbrev pub WalkNeverSticks : Type 0
WalkNeverSticks =
    (p : Sample) (at : ℕ → ℕ) (a : ℕ → ℕ → ℚ) (from t hi : ℚ) (j : ℕ) (d : Direction) → IsBasis p at a → HasCosts p hi
    → IsNextBreak (over_quantiles p) at a from t j d → t <ℚ hi
    → (r : ℕ) × IsWalkingStep (over_quantiles p) at a (is_below hi) from t j r

-- and where no step is left, no breakpoint is left before hi
abbrev pub EndIsReached : Type 0
EndIsReached =
    (p : Sample) (at : ℕ → ℕ) (a : ℕ → ℕ → ℚ) (from hi : ℚ) → IsBasis p at a → HasCosts p hi
    → ((t : ℚ) (j r : ℕ) → ¬ IsWalkingStep (over_quantiles p) at a (is_below hi) from t j r)
    → HasNoBreak (over_quantiles p) at a from hi
