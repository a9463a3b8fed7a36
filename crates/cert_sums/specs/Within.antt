-- Inner. Costs of rows, and values within them.
use Rattle.std.specs.Prelude.{◌≡◌, ℕ, ℤ, pos}
use Rattle.rational_laws.specs.Rational.{ℚ, neg_ℚ, whole, ◌≤ℚ◌}
use Rattle.loss_model.specs.declared.vertex.Side.{Side}
use Rattle.loss_model.specs.declared.vertex.Side.TheVariants.{Basic}
use Rattle.loss_model.specs.Sample.{Sample, up_cost, down_cost}
use Rattle.cert_sums.specs.Duals.{at_line}
use Rattle.cert_sums.specs.declared.table.WholeRow.{WholeRow}

-- a number is between both bounds of a row in whole numbers, all of them times the scale
pub record IsBetween (w : WholeRow) (scale : ℕ) (at : ℤ) (e : ℚ) : Type 0 where
  pub upper : e ≤ℚ whole (at_line w.up scale at)
  pub lower : whole (at_line w.low scale at) ≤ℚ e

-- a value of row i is within its costs, where the row is a basic one
pub record IsWithinCosts (p : Sample) (theta : ℚ) (side : Side) (e : ℚ) (i : ℕ) : Type 0 where
  pub upper : side ≡ Basic → e ≤ℚ up_cost p theta i
  pub lower : side ≡ Basic → neg_ℚ (down_cost p theta i) ≤ℚ e

-- neither cost of row i is negative
pub record HasCosts (p : Sample) (theta : ℚ) (i : ℕ) : Type 0 where
  pub up : whole (pos 0) ≤ℚ up_cost p theta i
  pub down : whole (pos 0) ≤ℚ down_cost p theta i
