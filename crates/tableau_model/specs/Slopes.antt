-- Inner. The least of the slopes of the loss at a basis.
use Rattle.std.specs.Prelude.{◌≡◌, ◌⊎◌, ℕ, ◌<◌}
use Rattle.rational_laws.specs.Fraction.{Fraction, rational}
use Rattle.rational_laws.specs.Rational.{ℚ, ◌≤ℚ◌}
use Rattle.loss_model.specs.Sample.{Sample}
use Rattle.pivot_model.specs.declared.direction.Direction.{Direction}
use Rattle.pivot_model.specs.Duals.{◌<ℚ◌}
use Rattle.pivot_model.specs.Steps.{slope}
use Rattle.tableau_model.specs.declared.answer.Leaving.{Leaving}

-- of two slopes the second is taken where it is less
abbrev pub IsSteeper : {F : Type 0} → (F → Fraction) → Leaving F → Leaving F → Leaving F → Type 0
IsSteeper value first second taken =
    ((taken ≡ second) × (rational (value second.slope) <ℚ rational (value first.slope)))
    ⊎ ((taken ≡ first) × (rational (value first.slope) ≤ℚ rational (value second.slope)))

-- of the slopes at a basis
module _ {F : Type 0} (value : F → Fraction) (p : Sample) (at : ℕ → ℕ) (a : ℕ → ℕ → ℚ) (theta : ℚ) where
  -- the lesser of the two at position j
  pub record IsLesser (j : ℕ) (l : Leaving F) : Type 0 where
    pub position : l.position ≡ j
    pub is : rational (value l.slope) ≡ slope p at a theta j l.direction
    pub least : (d : Direction) → slope p at a theta j l.direction ≤ℚ slope p at a theta j d

  -- the least at the first n positions, and the first of its kind
  pub record IsLeast (n : ℕ) (l : Leaving F) : Type 0 where
    pub within : l.position < n
    pub is : rational (value l.slope) ≡ slope p at a theta l.position l.direction
    pub least : (k : ℕ) (d : Direction) → k < n → slope p at a theta l.position l.direction ≤ℚ slope p at a theta k d
    pub first : (k : ℕ) (d : Direction) → k < l.position → slope p at a theta l.position l.direction <ℚ slope p at a theta k d
