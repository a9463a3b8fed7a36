-- Inner. The slopes of the loss at a basis, by the dual values at its positions.
use Rattle.std.specs.Prelude.{◌≡◌, ℕ, Option, Some, None, slice_index}
use Rattle.rational_laws.specs.Fraction.{Fraction, rational}
use Rattle.rational_laws.specs.Rational.{ℚ}
use Rattle.loss_model.specs.declared.spill.Spill.{Spill}
use Rattle.loss_model.specs.Problem.{sample}
use Rattle.loss_model.specs.Sample.{Sample}
use Rattle.basis_inverse.specs.Square.{inverse_entry}
use Rattle.pivot_model.specs.declared.direction.Direction.{Direction}
use Rattle.pivot_model.specs.Steps.{slope, HasNoNegativeSlope, IsLeaving}
use Rattle.pivot_model.specs.Spills.{IsStepSpill}
use Rattle.tableau_model.specs.declared.answer.Leaving.{Leaving}
use Rattle.tableau_model.specs.Slopes.{IsLesser}
use Rattle.fraction_tableau.specs.declared.slopes.Slopes.{Slopes}
use Rattle.fraction_tableau.specs.Kept.{IsKept, place}
use Rattle.tableau_model.specs.Standing.{AreDuals}

-- of the slopes at a basis
module _ {F : Type 0} (value : F → Fraction) (p : Sample) (at : ℕ → ℕ) (a : ℕ → ℕ → ℚ) (theta : ℚ) where
  -- none is negative, or the position that leaves, with its slope
  abbrev pub IsLeavingAt : Option (Leaving F) → Type 0
  IsLeavingAt None = HasNoNegativeSlope p at a theta
  IsLeavingAt (Some l) =
      IsLeaving p at a theta l.position l.direction × (rational (value l.slope) ≡ slope p at a theta l.position l.direction)

module _ {F : Type 0} (value : F → Fraction) where
  -- the dual values are those of the basis at theta
  pub record HasDuals (s : Slopes F) : Type 0 where
    pub kept : IsKept value s.tableau.now
    pub duals : AreDuals value (place value s.tableau.now) value (rational (value s.theta)) s.duals.now

  -- the basis of these slopes
  abbrev pub model : Slopes F → Sample
  model s = sample value s.tableau.now.problem

  abbrev pub rows_of : Slopes F → ℕ → ℕ
  rows_of s = slice_index s.tableau.now.rows

  abbrev pub inverse_of : Slopes F → ℕ → ℕ → ℚ
  inverse_of s = inverse_entry value s.tableau.now.square

  -- the slope at position j in a direction
  abbrev pub slope_of : Slopes F → ℕ → Direction → ℚ
  slope_of s j d = slope (model s) (rows_of s) (inverse_of s) (rational (value s.theta)) j d

  -- the lesser one at position j
  abbrev pub IsLesserOf : Slopes F → ℕ → Leaving F → Type 0
  IsLesserOf s j l = IsLesser value (model s) (rows_of s) (inverse_of s) (rational (value s.theta)) j l

  -- the position that leaves, or none
  abbrev pub IsLeavingOf : Slopes F → Option (Leaving F) → Type 0
  IsLeavingOf s l = IsLeavingAt value (model s) (rows_of s) (inverse_of s) (rational (value s.theta)) l

  -- an operation of a solving step overflows
  abbrev pub IsSlopesSpill : ℕ → Slopes F → Spill F → Type 0
  IsSlopesSpill range s spill = IsStepSpill value range (model s) (rows_of s) (inverse_of s) (rational (value s.theta)) spill
