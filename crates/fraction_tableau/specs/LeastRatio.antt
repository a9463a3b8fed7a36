-- Inner. The first of the rows that move on a line.
use Rattle.std.specs.Prelude.{◌≡◌, ◌⊎◌, ℕ, ◌<◌, Bool, true, false, Option, Some, None}
use Rattle.rational_laws.specs.Fraction.{Fraction}
use Rattle.rational_laws.specs.Rational.{ℚ}
use Rattle.loss_model.specs.Sample.{Sample}
use Rattle.pivot_model.specs.declared.direction.Direction.{Direction}
use Rattle.pivot_model.specs.Steps.{moves}
use Rattle.walk_model.specs.Walks.{IsFirstMover}
use Rattle.fraction_tableau.specs.declared.line.Line.{Line}
use Rattle.fraction_tableau.specs.Lines.{model, at_of, inverse_of}

-- of the items j and k, which f gives, the one that comes first
abbrev pub IsEarlier : (ℕ → ℕ → Bool) → (ℕ → ℕ) → ℕ → ℕ → ℕ → Type 0
IsEarlier lt f j k n = ((n ≡ k) × (lt (f k) (f j) ≡ true)) ⊎ ((n ≡ j) × (lt (f k) (f j) ≡ false))

-- row r is the first of those that move on the line
unfoldable pub IsFirstOn : {F : Type 0} → (F → Fraction) → Line F → ℕ → Type 0
IsFirstOn value l r = IsFirstMover (model value l) (at_of value l) (inverse_of value l) l.position l.direction r

-- the row that enters where position j leaves in direction d, or none where no row moves
abbrev pub IsFirstMoverOrNone : Sample → (ℕ → ℕ) → (ℕ → ℕ → ℚ) → ℕ → Direction → Option ℕ → Type 0
IsFirstMoverOrNone p at a j d None = (i : ℕ) → i < p.rows → moves p at a j d i ≡ false
IsFirstMoverOrNone p at a j d (Some r) = IsFirstMover p at a j d r
