-- Inner. A basis of rows in whole numbers with what stands there, and its slopes.
use Rattle.std.specs.Prelude.{ℕ, ℤ, length, slice_index}
use Rattle.rational_laws.specs.Rational.{ℚ, whole}
use Rattle.loss_model.specs.Sample.{Sample}
use Rattle.basis_model.specs.declared.part.Part.{Part}
use Rattle.basis_model.specs.declared.part.Part.TheVariants.{Constant, Linear}
use Rattle.basis_model.specs.Basis.{IsBasis}
use Rattle.pivot_model.specs.declared.direction.Direction.{Direction}
use Rattle.pivot_model.specs.declared.direction.Direction.TheVariants.{Upward, Downward}
use Rattle.walk_model.specs.Families.{over_quantiles, slope_part}
use Rattle.whole_inverse.specs.Squares.{inverse_of}
use Rattle.whole_rows.specs.declared.rows.WholeRow.{WholeRow}
use Rattle.whole_rows.specs.Wholes.{sample_of_rows}
use Rattle.whole_solution.specs.Standing.{IsWholeBasis, IsWholeSolution}
use Rattle.whole_steps.specs.declared.station.Station.{Station}

-- the rows as a sample
abbrev pub model : Station → Sample
model s = sample_of_rows (length s.basis.now.inverse.now.columns) s.basis.now.rows.now

-- the rows of the basis, and the inverse of these
abbrev pub at_of : Station → ℕ → ℕ
at_of s = slice_index s.basis.now.basis.now.rows

abbrev pub inverse_at : Station → ℕ → ℕ → ℚ
inverse_at s = inverse_of s.basis.now.inverse.now

-- the determinant, over which numerators stand
abbrev pub over_of : Station → ℤ
over_of s = s.basis.now.inverse.now.determinant

-- a part of the slope at position j in a direction
abbrev pub slope_at : Station → Part → ℕ → Direction → ℚ
slope_at s part j d = slope_part (over_quantiles (model s)) (at_of s) (inverse_at s) part j d

-- the solution is that of the basis
pub record IsStation (s : Station) : Type 0 where
  pub held : IsWholeBasis s.basis.now
  pub basis : IsBasis (model s) (at_of s) (inverse_at s)
  pub solution : IsWholeSolution (model s) (at_of s) (inverse_at s) (over_of s) s.solution.now

-- a part of the cost of a row in a direction
abbrev pub cost_of : WholeRow ℤ → Part → Direction → ℚ
cost_of r Constant Upward = whole r.up0
cost_of r Constant Downward = whole r.down0
cost_of r Linear Upward = whole r.up1
cost_of r Linear Downward = whole r.down1

-- the same of row i
abbrev pub cost_part : Sample → Part → Direction → ℕ → ℚ
cost_part p Constant Upward i = p.up0 i
cost_part p Constant Downward i = p.down0 i
cost_part p Linear Upward i = p.up1 i
cost_part p Linear Downward i = p.down1 i
