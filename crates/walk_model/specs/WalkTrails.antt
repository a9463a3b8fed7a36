-- Stated. Lawful walks, and the lawful trails of a process and of an interval (Koenker and d'Orey 1987, AS 229).
use Rattle.std.specs.Prelude.{◌≡◌, ◌⊎◌, ℕ, Bool, List, [], ◌∷◌, ◌++◌, ◌+◌, length, map, slice_index, slice_set, Some, pos}
use Rattle.std.specs.Ordering.{is_lt}
use Rattle.rational_laws.specs.Fraction.{Fraction, rational}
use Rattle.rational_laws.specs.Rational.{ℚ, ◌*ℚ◌, neg_ℚ, whole, le_ℚ}
use Rattle.rational_laws.specs.Order.{cmp_ℚ}
use Rattle.loss_model.specs.declared.process.Exchange.{Exchange}
use Rattle.loss_model.specs.declared.process.Trail.{Trail}
use Rattle.loss_model.specs.Sample.{Sample}
use Rattle.loss_model.specs.Greedy.{IsGreedyBasis}
use Rattle.pivot_model.specs.Trails.{AtBasis, basis_after, AreSolvingSteps, IsOptimalBasis, ReachesLimit}
use Rattle.walk_model.specs.Families.{Family, over_quantiles, rising_value, falling_value}
use Rattle.walk_model.specs.Walks.{IsWalkingStep}

-- the parameter of a step, by its theta: over quantiles, and while a tested value falls
abbrev pub theta_value : Fraction → ℚ
theta_value x = rational x

-- and while a tested value rises
abbrev pub negated_theta : Fraction → ℚ
negated_theta x = neg_ℚ (rational x)

-- a walk of a family as far as `reach` allows; `when` is the parameter of a step by its theta
module _ (when : Fraction → ℚ) (f : Family) (reach : ℚ → Bool) where
  -- each step is the walking step of the basis before it, from the parameter of the step before
  abbrev pub AreWalkingSteps : ℚ → List ℕ → List Exchange → Type 0
  AreWalkingSteps from basis [] = Unit {0}
  AreWalkingSteps from basis (s ∷ steps) =
      AtBasis f.sample basis (λ a. IsWalkingStep f (slice_index basis) a reach from (when s.theta) s.position s.row)
      × AreWalkingSteps (when s.theta) (slice_set basis s.position s.row) steps

  -- the parameter of the last step
  abbrev pub value_after : ℚ → List Exchange → ℚ
  value_after from [] = from
  value_after from (s ∷ steps) = value_after (when s.theta) steps

  -- a walking step is left at the basis
  abbrev pub HasWalkingStep : ℚ → List ℕ → Type 0
  HasWalkingStep from basis =
      AtBasis f.sample basis (λ a. (t : ℚ) × (j : ℕ) × (r : ℕ) × IsWalkingStep f (slice_index basis) a reach from t j r)

  -- none is left
  abbrev pub IsWalkEnd : ℚ → List ℕ → Type 0
  IsWalkEnd from basis =
      AtBasis f.sample basis (λ a. (t : ℚ) (j r : ℕ) → ¬ IsWalkingStep f (slice_index basis) a reach from t j r)

  -- a walking step is left where steps have led, or none is
  abbrev pub HasStepAfter : ℚ → List ℕ → List Exchange → Type 0
  HasStepAfter from basis steps = HasWalkingStep (value_after from steps) (basis_after basis steps)

  abbrev pub IsEndAfter : ℚ → List ℕ → List Exchange → Type 0
  IsEndAfter from basis steps = IsWalkEnd (value_after from steps) (basis_after basis steps)

-- a walk over quantiles goes on before hi
abbrev pub is_below : ℚ → ℚ → Bool
is_below hi t = is_lt (cmp_ℚ t hi)

-- a walk of tested values goes on as long as the squared weight of the column is within a bound
abbrev pub is_within : ℚ → ℚ → Bool
is_within bound t = le_ℚ (t *ℚ t) bound

-- the trail begins with the greedy basis, goes by solving steps at lo to an optimal basis, and by
-- walking steps from there to the basis at which it stands at `now`
pub record IsProcessTrail (p : Sample) (lo hi : ℚ) (trail : Trail) (basis : List ℕ) (now : ℚ) : Type 0 where
  pub first : List ℕ
  pub solving : List Exchange
  pub walking : List Exchange
  pub begins : trail.start ≡ map Some first
  pub greedy : IsGreedyBasis p first
  pub all : trail.steps ≡ solving ++ walking
  pub solved : AreSolvingSteps p lo first solving
  pub optimal : IsOptimalBasis p lo (basis_after first solving)
  pub walked : AreWalkingSteps (theta_value) (over_quantiles p) (is_below hi) lo (basis_after first solving) walking
  pub leads : basis_after (basis_after first solving) walking ≡ basis
  pub reaches : value_after (theta_value) (over_quantiles p) (is_below hi) lo walking ≡ now
  pub rise : trail.rise ≡ []
  pub fall : trail.fall ≡ []

-- the lawful trail of the process has as many steps as the limit says, and one more is left: a solving
-- step at lo, or a walking step
pub record ReachesWalkLimit (p : Sample) (lo hi : ℚ) (limit : ℕ) (trail : Trail) : Type 0 where
  pub basis : List ℕ
  pub now : ℚ
  pub lawful : IsProcessTrail p lo hi trail basis now
  pub count : length trail.steps ≡ limit
  pub more : HasWalkingStep (theta_value) (over_quantiles p) (is_below hi) now basis

-- a process reaches the limit in its solve, or in its walk
abbrev pub ReachesProcessLimit : Sample → ℚ → ℚ → ℕ → Trail → Type 0
ReachesProcessLimit p lo hi limit trail =
    ReachesLimit p lo limit trail ⊎ ReachesWalkLimit p lo hi limit trail

-- the rising walk is at its end
abbrev pub HasRisen : Sample → ℚ → ℕ → ℚ → Trail → List ℕ → Type 0
HasRisen p tau c bound trail basis =
    IsEndAfter (negated_theta) (rising_value p tau c) (is_within bound) (whole (pos 0)) basis trail.rise

-- the falling walk is at its end
abbrev pub HasFallen : Sample → ℚ → ℕ → ℚ → Trail → List ℕ → Type 0
HasFallen p tau c bound trail basis =
    IsEndAfter (theta_value) (falling_value p tau c) (is_within bound) (whole (pos 0)) basis trail.fall

-- the trail goes by solving steps at tau to an optimal basis, and from there the tested value of
-- column c rises, as long as the squared weight of the column is within the bound, and then falls
pub record IsIntervalTrail (p : Sample) (tau : ℚ) (c : ℕ) (bound : ℚ) (trail : Trail) (basis : List ℕ) : Type 0 where
  pub first : List ℕ
  pub begins : trail.start ≡ map Some first
  pub greedy : IsGreedyBasis p first
  pub solved : AreSolvingSteps p tau first trail.steps
  pub leads : basis_after first trail.steps ≡ basis
  pub optimal : IsOptimalBasis p tau basis
  pub rose : AreWalkingSteps (negated_theta) (rising_value p tau c) (is_within bound) (whole (pos 0)) basis trail.rise
  pub fell : AreWalkingSteps (theta_value) (falling_value p tau c) (is_within bound) (whole (pos 0)) basis trail.fall
  pub order : (trail.fall ≡ []) ⊎ HasRisen p tau c bound trail basis

-- a step of a walk is left at the last basis of the trail: of the rising one, or of the falling one
-- where the rising one is at its end
abbrev pub HasTestedStep : Sample → ℚ → ℕ → ℚ → Trail → List ℕ → Type 0
HasTestedStep p tau c bound trail basis =
    ((trail.fall ≡ [])
    × HasStepAfter (negated_theta) (rising_value p tau c) (is_within bound) (whole (pos 0)) basis trail.rise)
    ⊎ (HasRisen p tau c bound trail basis
    × HasStepAfter (theta_value) (falling_value p tau c) (is_within bound) (whole (pos 0)) basis trail.fall)

-- the lawful trail of the interval has as many steps as the limit says, and one more is left
pub record ReachesTestedLimit (p : Sample) (tau : ℚ) (c : ℕ) (bound : ℚ) (limit : ℕ) (trail : Trail) : Type 0 where
  pub basis : List ℕ
  pub lawful : IsIntervalTrail p tau c bound trail basis
  pub count : length trail.steps + length trail.rise + length trail.fall ≡ limit
  pub more : HasTestedStep p tau c bound trail basis

-- an interval reaches it in its solve, or in one of its walks
abbrev pub ReachesIntervalLimit : Sample → ℚ → ℕ → ℚ → ℕ → Trail → Type 0
ReachesIntervalLimit p tau c bound limit trail =
    ReachesLimit p tau limit trail ⊎ ReachesTestedLimit p tau c bound limit trail
