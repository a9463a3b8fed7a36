-- Inner. The line search: along a line on which the loss falls, rows are passed until it does so no longer.
use Rattle.std.specs.Prelude.{ℕ, ◌&&◌, length}
use Rattle.rational_laws.specs.Fraction.{Fraction, rational}
use Rattle.rational_laws.specs.Rational.{ℚ}
use Rattle.loss_model.specs.declared.spill.Spill.{Spill}
use Rattle.pivot_model.specs.Duals.{HasCosts}
use Rattle.pivot_model.specs.Steps.{slope, passing, slope_before, IsLeaving, IsEntering}
use Rattle.pivot_model.specs.Spills.{IsStepSpill, count}
use Rattle.fraction_tableau.specs.declared.line.Line.{Line}
use Rattle.fraction_tableau.specs.Lines.{model, at_of, inverse_of, IsLine, is_moving, comes_before}

module _ {F : Type 0} (value : F → Fraction) where
  -- the loss falls along the line: at theta this position leaves in this direction
  pub record IsDescent (l : Line F) : Type 0 where
    pub line : IsLine value l
    pub costs : HasCosts (model value l) (rational (value l.theta))
    pub leaving : IsLeaving (model value l) (at_of value l) (inverse_of value l) (rational (value l.theta)) l.position l.direction

  -- an operation in the line search overflows
  unfoldable pub IsDescentSpill : ℕ → Line F → Spill F → Type 0
  IsDescentSpill range l s = IsStepSpill value range (model value l) (at_of value l) (inverse_of value l) (rational (value l.theta)) s

  -- row r enters
  unfoldable pub Enters : Line F → ℕ → Type 0
  Enters l r = IsEntering (model value l) (at_of value l) (inverse_of value l) (rational (value l.theta)) l.position l.direction r

  -- the slope where the line begins
  unfoldable pub first_slope : Line F → ℚ
  first_slope l = slope (model value l) (at_of value l) (inverse_of value l) (rational (value l.theta)) l.position l.direction

  -- the slope after all rows before row r
  unfoldable pub slope_until : Line F → ℕ → ℚ
  slope_until l r = slope_before (model value l) (at_of value l) (inverse_of value l) (rational (value l.theta)) l.position l.direction r

  -- what passing row i adds
  unfoldable pub passing_of : Line F → ℕ → ℚ
  passing_of l i = passing (model value l) (at_of value l) (inverse_of value l) (rational (value l.theta)) l.position i

  -- how many rows are passed before row r
  unfoldable pub passed_until : Line F → ℕ → ℕ
  passed_until l r = count (length l.tableau.now.problem.rows) (λ i. is_moving value l i && comes_before value l i r)
