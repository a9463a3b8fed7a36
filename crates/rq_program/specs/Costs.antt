-- Stated. What the rows of a problem cost, and which of them are the design's.
use Rattle.std.specs.Prelude.{◌≡◌, ◌≤◌, ◌<◌, ℕ, All, Some, length, pos}
use Rattle.std.specs.List.{slice_get}
use Rattle.std.specs.declared.cmp.Ordering.TheVariants.{Less}
use Rattle.rational_laws.specs.Order.{cmp_ℚ}
use Rattle.rational_laws.specs.Rational.{ℚ, ◌-ℚ◌, ◌*ℚ◌, whole}
use Rattle.frac_core.specs.declared.frac128.Frac128.{Frac128}
use Rattle.frac_core.specs.Values.{exact, value}
use Rattle.loss_model.specs.declared.problem.Problem.{Problem}
use Rattle.loss_model.specs.Dual.{IsDataRow}
use Rattle.loss_model.specs.Problem.{sample}
use Rattle.loss_model.specs.Sample.{Sample, up_cost, down_cost}
use Rattle.design_matrix.specs.declared.design.Design.{Design}
use Rattle.design_matrix.specs.declared.design.DesignRow.{DesignRow}
use Rattle.tv_penalty.specs.declared.Smoothing.{Smoothing}
use Rattle.rq_program.specs.Faults.{row_count}

-- at the quantile theta a unit above the fit costs weight*theta, and a unit below it weight*(1-theta)
pub record CostsBy (weight : ℚ) (p : Sample) (i : ℕ) : Type 0 where
  pub up : (theta : ℚ) → up_cost p theta i ≡ weight *ℚ theta
  pub down : (theta : ℚ) → down_cost p theta i ≡ weight *ℚ (whole (pos 1) -ℚ theta)

-- a penalty row: on both sides it costs lambda, which is above 0, whatever the quantile, and its response is 0
pub record IsPenaltyRow (p : Sample) (i : ℕ) : Type 0 where
  pub weighted : cmp_ℚ (whole (pos 0)) (p.up0 i) ≡ Less
  pub up1 : p.up1 i ≡ whole (pos 0)
  pub down0 : p.down0 i ≡ p.up0 i
  pub down1 : p.down1 i ≡ whole (pos 0)
  pub y : p.y i ≡ whole (pos 0)

-- the rows of the design stand first, and cost by their weights; weights above 0 make them data rows. The penalty
-- rows follow; lambdas above 0 make them penalty rows
pub record HasDataRows (design : Design) (smoothing : Smoothing) (p : Problem Frac128) : Type 0 where
  pub count : length p.rows ≡ row_count design smoothing
  pub costs : (i : ℕ) (r : DesignRow) → slice_get design.rows i ≡ Some r → CostsBy (exact r.weight) (sample value p) i
  pub are_data : All (λ r. cmp_ℚ (whole (pos 0)) (exact r.weight) ≡ Less) design.rows → (i : ℕ) → i < length design.rows → IsDataRow (sample value p) i
  pub are_penalties : All (λ r. cmp_ℚ (whole (pos 0)) (exact r.lambda) ≡ Less) smoothing.rows → (i : ℕ) → length design.rows ≤ i
      → i < row_count design smoothing → IsPenaltyRow (sample value p) i
