-- Law. A walk of an interval in its midst, as a loop has it.
use Rattle.std.specs.Prelude.{◌≡◌, ℕ, List, [], ◌∷◌, ◌++◌, length, slice_index, slice_set, pos}
use Rattle.rational_laws.specs.Fraction.{Fraction}
use Rattle.rational_laws.specs.Rational.{ℚ, whole}
use Rattle.rational_laws.specs.Exchange.{exchanged}
use Rattle.loss_model.specs.declared.problem.Problem.{Problem}
use Rattle.loss_model.specs.declared.process.Exchange.{Exchange}
use Rattle.loss_model.specs.Problem.{sample}
use Rattle.basis_model.specs.Basis.{IsBasis}
use Rattle.pivot_model.specs.Duals.{HasCosts}
use Rattle.pivot_model.specs.Steps.{HasNoNegativeSlope}
use Rattle.pivot_model.specs.Trails.{EndsAt, basis_after}
use Rattle.walk_model.specs.Families.{IsOptimalIn}
use Rattle.walk_model.specs.Walks.{IsWalkingStep}
use Rattle.walk_model.specs.WalkTrails.{AreWalkingSteps, value_after, is_within}
use Rattle.loss_model.specs.declared.interval.End.{End}
use Rattle.rank_walk_model.specs.RankWalks.{Way, tested}
use Rattle.rank_walk_model.specs.Ends.{IsEndAt}
use Rattle.rank_walk_model.specs.Intervals.{when_on, IsWalked}

-- from the solved basis the steps have led to the basis, with the inverse a, which is optimal at t
pub record IsWalking {F : Type 0} (value : F → Fraction) (p : Problem F) (way : Way) (j : ℕ) (tau bound : ℚ) (solved : List ℕ) (steps : List Exchange)
    (t : ℚ) (basis : List ℕ) (a : ℕ → ℕ → ℚ) : Type 0 where
  pub walked : AreWalkingSteps (when_on way) (tested way (sample value p) tau j) (is_within bound) (whole (pos 0)) solved steps
  pub leads : basis_after solved steps ≡ basis
  pub reaches : value_after (when_on way) (tested way (sample value p) tau j) (is_within bound) (whole (pos 0)) steps ≡ t
  pub size : length basis ≡ p.columns
  pub is_basis : IsBasis (sample value p) (slice_index basis) a
  pub ends : EndsAt p.columns a
  pub optimal : IsOptimalIn (tested way (sample value p) tau j) (slice_index basis) a t

-- a walk begins at the solved basis
abbrev pub LoopBegins : {F : Type 0} → (F → Fraction) → Problem F → Type 0
LoopBegins value p =
    (way : Way) (j : ℕ) (tau bound : ℚ) (solved : List ℕ) (a : ℕ → ℕ → ℚ) → length solved ≡ p.columns
    → IsBasis (sample value p) (slice_index solved) a → EndsAt p.columns a → HasNoNegativeSlope (sample value p) (slice_index solved) a tau
    → IsWalking value p way j tau bound solved [] (whole (pos 0)) solved a

-- it goes on by a walking step
abbrev pub LoopGoesOn : {F : Type 0} → (F → Fraction) → Problem F → Type 0
LoopGoesOn {F} value p =
    (way : Way) (j : ℕ) (tau bound : ℚ) (solved : List ℕ) (steps : List Exchange) (t : ℚ) (basis : List ℕ) (a : ℕ → ℕ → ℚ) (x : Exchange)
    → HasCosts (sample value p) tau → IsWalking value p way j tau bound solved steps t basis a
    → IsWalkingStep (tested way (sample value p) tau j) (slice_index basis) a (is_within bound) t (when_on way x.theta) x.position x.row
    → IsWalking value p way j tau bound solved (steps ++ x ∷ []) (when_on way x.theta) (slice_set basis x.position x.row)
    (exchanged p.columns a x.position ((sample value p).x x.row))

-- and it is done where an end is handed out
abbrev pub LoopIsDone : {F : Type 0} → (F → Fraction) → Problem F → Type 0
LoopIsDone {F} value p =
    (way : Way) (j : ℕ) (tau bound : ℚ) (solved : List ℕ) (steps : List Exchange) (t : ℚ) (basis : List ℕ) (a : ℕ → ℕ → ℚ) (end : End)
    → IsWalking value p way j tau bound solved steps t basis a → IsEndAt value p way j tau bound basis a t end
    → IsWalked value p way j tau bound solved steps end
