-- Inner. Crossings of the dual values of a basis, and the first of them.
use Rattle.std.specs.Prelude.{◌≡◌, ◌⊎◌, ℕ, ◌<◌, Option, Some, None, pos}
use Rattle.rational_laws.specs.Fraction.{Fraction, rational}
use Rattle.rational_laws.specs.Rational.{ℚ, whole, ◌≤ℚ◌}
use Rattle.loss_model.specs.Sample.{Sample}
use Rattle.basis_model.specs.declared.part.Part.TheVariants.{Linear}
use Rattle.pivot_model.specs.declared.direction.Direction.{Direction}
use Rattle.pivot_model.specs.Duals.{◌<ℚ◌}
use Rattle.walk_model.specs.Families.{over_quantiles, slope_part}
use Rattle.tableau_model.specs.declared.breakpoint.Breakpoint.{Breakpoint}

-- the dual value at position j passes beyond its bound in a direction: the slope falls
abbrev pub passes_at : Sample → (ℕ → ℕ) → (ℕ → ℕ → ℚ) → ℕ → Direction → Type 0
passes_at p at a j d = slope_part (over_quantiles p) at a Linear j d <ℚ whole (pos 0)

module _ {F : Type 0} (value : F → Fraction) where
  -- of two the second is taken where it comes before, or where there is no first
  abbrev pub IsSooner : Option (Breakpoint F) → Option (Breakpoint F) → Option (Breakpoint F) → Type 0
  IsSooner None second taken = taken ≡ second
  IsSooner (Some first) None taken = taken ≡ Some first
  IsSooner (Some first) (Some second) taken =
      ((taken ≡ Some second) × (rational (value second.theta) <ℚ rational (value first.theta)))
      ⊎ ((taken ≡ Some first) × (rational (value first.theta) ≤ℚ rational (value second.theta)))

-- the bounds beyond which the dual values pass, and where they meet them
module _ {F : Type 0} (value : F → Fraction) (Passes : ℕ → Direction → Type 0) (crossing : ℕ → Direction → ℚ) where
  -- the first crossing at one position, or none
  abbrev pub IsCrossingAt : ℕ → Option (Breakpoint F) → Type 0
  IsCrossingAt j None = (d : Direction) → ¬ Passes j d
  IsCrossingAt j (Some b) =
      (b.position ≡ j) × Passes j b.direction × (rational (value b.theta) ≡ crossing j b.direction)
      × ((d : Direction) → Passes j d → rational (value b.theta) ≤ℚ crossing j d)

  -- the first at the first n positions, at the least of them
  pub record IsFirst (n : ℕ) (b : Breakpoint F) : Type 0 where
    pub within : b.position < n
    pub passes : Passes b.position b.direction
    pub theta : rational (value b.theta) ≡ crossing b.position b.direction
    pub least : (k : ℕ) (d : Direction) → k < n → Passes k d → rational (value b.theta) ≤ℚ crossing k d
    pub first : (k : ℕ) (d : Direction) → k < b.position → Passes k d → rational (value b.theta) <ℚ crossing k d

  -- it, or none
  abbrev pub IsFirstOf : ℕ → Option (Breakpoint F) → Type 0
  IsFirstOf n None = (k : ℕ) (d : Direction) → k < n → ¬ Passes k d
  IsFirstOf n (Some b) = IsFirst n b
