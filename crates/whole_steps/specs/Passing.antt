-- Inner. What rows that are passed add to the slope of a line, and the row that enters.
use Rattle.std.specs.Prelude.{ℕ, ℤ, ◌*ℤ◌, ◌&&◌, if◌then◌else◌, unsigned_abs, pos}
use Rattle.rational_laws.specs.Fraction.{Fraction}
use Rattle.rational_laws.specs.Rational.{ℚ, whole}
use Rattle.pivot_model.specs.Steps.{slope, passing, slope_before, IsEntering}
use Rattle.whole_inverse.specs.Squares.{WholeSquare}
use Rattle.whole_steps.specs.declared.line.Line.{Line}
use Rattle.whole_steps.specs.Lines.{model, at_of, inverse_at, over_of, IsFullLine, is_moving, comes_before}
use Rattle.whole_steps.specs.declared.passing.Descent.{Descent}
use Rattle.whole_steps.specs.Quantiles.{IsQuantile, theta_of, number_over}

-- the line
abbrev pub line_of : Descent → Line ℤ WholeSquare
line_of d = d.full.line

pub record IsDescent (d : Descent) : Type 0 where
  pub full : IsFullLine d.full
  pub theta : IsQuantile d.theta

-- a number over the determinant and the quantile's second part
abbrev pub number_value : Descent → ℤ → Fraction
number_value d n = number_over (unsigned_abs (over_of (line_of d) *ℤ d.theta.under)) n

-- the slope where the line begins
unfoldable pub first_slope : Descent → ℚ
first_slope d = slope (model (line_of d)) (at_of (line_of d)) (inverse_at (line_of d)) (theta_of d.theta) (line_of d).position (line_of d).direction

-- what passing row i adds
unfoldable pub passing_of : Descent → ℕ → ℚ
passing_of d i = passing (model (line_of d)) (at_of (line_of d)) (inverse_at (line_of d)) (theta_of d.theta) (line_of d).position i

-- what row i adds before row r
abbrev pub passed_by : Descent → ℕ → ℕ → ℚ
passed_by d r i = if is_moving (line_of d) i && comes_before (line_of d) i r then passing_of d i else whole (pos 0)

-- the slope after all rows before row r
unfoldable pub slope_until : Descent → ℕ → ℚ
slope_until d r = slope_before (model (line_of d)) (at_of (line_of d)) (inverse_at (line_of d)) (theta_of d.theta) (line_of d).position (line_of d).direction r

-- row r enters
unfoldable pub Enters : Descent → ℕ → Type 0
Enters d r = IsEntering (model (line_of d)) (at_of (line_of d)) (inverse_at (line_of d)) (theta_of d.theta) (line_of d).position (line_of d).direction r
