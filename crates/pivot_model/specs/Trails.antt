-- Stated. Lawful trails of solving steps (Barrodale and Roberts 1973).
use Rattle.std.specs.Prelude.{◌≡◌, ℕ, ◌<◌, List, [], ◌∷◌, length, map, slice_index, slice_set, Some, pos}
use Rattle.rational_laws.specs.Fraction.{rational}
use Rattle.rational_laws.specs.Rational.{ℚ, whole}
use Rattle.loss_model.specs.declared.process.Exchange.{Exchange}
use Rattle.loss_model.specs.declared.process.Trail.{Trail}
use Rattle.loss_model.specs.Sample.{Sample}
use Rattle.loss_model.specs.Greedy.{IsGreedyBasis}
use Rattle.basis_model.specs.Basis.{IsBasis}
use Rattle.pivot_model.specs.Steps.{HasNoNegativeSlope, IsSolvingStep}

-- a is 0 outside its columns and positions
abbrev pub EndsAt : ℕ → (ℕ → ℕ → ℚ) → Type 0
EndsAt n a = (k j : ℕ) → ¬ ((k < n) × (j < n)) → a k j ≡ whole (pos 0)

-- the rows, by position, are a basis, and Q holds of its inverse
pub record AtBasis (p : Sample) (basis : List ℕ) (Q : (ℕ → ℕ → ℚ) → Type 0) : Type 0 where
  pub size : length basis ≡ p.columns
  pub a : ℕ → ℕ → ℚ
  pub is_basis : IsBasis p (slice_index basis) a
  pub ends : EndsAt p.columns a
  pub holds : Q a

-- the basis to which steps lead
abbrev pub basis_after : List ℕ → List Exchange → List ℕ
basis_after basis [] = basis
basis_after basis (s ∷ steps) = basis_after (slice_set basis s.position s.row) steps

-- each step is the solving step at theta of the basis before it
abbrev pub AreSolvingSteps : Sample → ℚ → List ℕ → List Exchange → Type 0
AreSolvingSteps p theta basis [] = Unit {0}
AreSolvingSteps p theta basis (s ∷ steps) =
    (rational s.theta ≡ theta)
    × AtBasis p basis (λ a. IsSolvingStep p (slice_index basis) a theta s.position s.row)
    × AreSolvingSteps p theta (slice_set basis s.position s.row) steps

-- the trail begins with the greedy basis, goes by solving steps at theta, and leads to the basis
pub record IsSolvingTrail (p : Sample) (theta : ℚ) (trail : Trail) (basis : List ℕ) : Type 0 where
  pub first : List ℕ
  pub begins : trail.start ≡ map Some first
  pub greedy : IsGreedyBasis p first
  pub lawful : AreSolvingSteps p theta first trail.steps
  pub leads : basis_after first trail.steps ≡ basis
  pub rise : trail.rise ≡ []
  pub fall : trail.fall ≡ []

-- no solving step is left at the basis
abbrev pub IsOptimalBasis : Sample → ℚ → List ℕ → Type 0
IsOptimalBasis p theta basis = AtBasis p basis (λ a. HasNoNegativeSlope p (slice_index basis) a theta)

-- a solving step is left at the basis
abbrev pub HasSolvingStep : Sample → ℚ → List ℕ → Type 0
HasSolvingStep p theta basis =
    AtBasis p basis (λ a. (j : ℕ) × (r : ℕ) × IsSolvingStep p (slice_index basis) a theta j r)

-- the lawful trail of the problem has as many steps as the limit says, and one more is left
pub record ReachesLimit (p : Sample) (theta : ℚ) (limit : ℕ) (trail : Trail) : Type 0 where
  pub basis : List ℕ
  pub lawful : IsSolvingTrail p theta trail basis
  pub count : length trail.steps ≡ limit
  pub more : HasSolvingStep p theta basis
