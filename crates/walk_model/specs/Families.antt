-- Stated. Dual values over a parameter t that rises. The rows, by their dual values, weigh `right k * t` in
-- column k.
--
-- Over quantiles the parameter is the quantile of the costs, and no column is to weigh anything. For a
-- tested value of one column the costs stay those of one quantile tau; in that column the rows weigh -t
-- while the tested value rises, and t while it falls (Koenker 2005, section 3.5, on the inversion of
-- rank tests).
use Rattle.std.specs.Prelude.{◌≡◌, ℕ, ◌<◌, pos}
use Rattle.rational_laws.specs.Rational.{ℚ, ◌+ℚ◌, ◌-ℚ◌, ◌*ℚ◌, neg_ℚ, whole, ◌≤ℚ◌}
use Rattle.rational_laws.specs.RationalSums.{sum_ℚ}
use Rattle.rational_laws.specs.Terms.{delta}
use Rattle.rational_laws.specs.Matrices.{coordinate}
use Rattle.loss_model.specs.Sample.{Sample, up_cost, down_cost}
use Rattle.loss_model.specs.Vertex.{value_of_side}
use Rattle.pivot_model.specs.Perturbed.{held_coordinate}
use Rattle.pivot_model.specs.declared.direction.Direction.{Direction}
use Rattle.pivot_model.specs.declared.direction.Direction.TheVariants.{Upward, Downward}
use Rattle.pivot_model.specs.Part.{Part}
use Rattle.pivot_model.specs.Part.TheVariants.{Constant, Linear}
use Rattle.pivot_model.specs.Basis.{side_at, basic_dual, dual_value}

-- what the parameter is: the quantile, or what a column is to weigh at the quantile tau
pub data Parameter : Type 0 where
  by_quantile : Parameter
  by_weight : (tau : ℚ) → Parameter

-- the quantile of the costs
abbrev pub theta_at : Parameter → ℚ → ℚ
theta_at by_quantile t = t
theta_at (by_weight tau) t = tau

-- a part of `constant + linear * theta` as a number that is affine in t
abbrev pub part_of : Parameter → Part → ℚ → ℚ → ℚ
part_of by_quantile Constant constant linear = constant
part_of by_quantile Linear constant linear = linear
part_of (by_weight tau) Constant constant linear = constant +ℚ (linear *ℚ tau)
part_of (by_weight tau) Linear constant linear = whole (pos 0)

-- a sample, what the parameter is, and what the rows weigh in each column for each unit of it
pub record Family : Type 0 where
  pub sample : Sample
  pub parameter : Parameter
  pub right : ℕ → ℚ

-- over the quantiles of a sample
abbrev pub over_quantiles : Sample → Family
over_quantiles p = record { sample = p; parameter = by_quantile; right = λ k. whole (pos 0) }

-- where the tested value of column c rises, at the quantile tau
abbrev pub rising_value : Sample → ℚ → ℕ → Family
rising_value p tau c = record { sample = p; parameter = by_weight tau; right = λ k. neg_ℚ (delta c k) }

-- and where it falls
abbrev pub falling_value : Sample → ℚ → ℕ → Family
falling_value p tau c = record { sample = p; parameter = by_weight tau; right = delta c }

-- the quantile of the costs at t
abbrev pub theta_of : Family → ℚ → ℚ
theta_of f t = theta_at f.parameter t

-- the values e are within the costs at t, and weigh right k * t in column k
pub record IsFeasibleIn (f : Family) (t : ℚ) (e : ℕ → ℚ) : Type 0 where
  pub lower : (i : ℕ) → i < f.sample.rows → neg_ℚ (down_cost f.sample (theta_of f t) i) ≤ℚ e i
  pub upper : (i : ℕ) → i < f.sample.rows → e i ≤ℚ up_cost f.sample (theta_of f t) i
  pub balanced : (k : ℕ) → k < f.sample.columns → sum_ℚ f.sample.rows (λ i. e i *ℚ f.sample.x i k) ≡ f.right k *ℚ t

module _ (f : Family) (at : ℕ → ℕ) (a : ℕ → ℕ → ℚ) where
  -- the dual value at t of the row at position j, which balances what the rows outside the basis weigh
  -- by the bounds of their sides
  abbrev pub basic_at : ℚ → ℕ → ℚ
  basic_at t j = dual_value f.sample at a (theta_of f t) j +ℚ (coordinate f.sample.columns a f.right j *ℚ t)

  -- the dual value of row i at t: that of its position in the basis, or the bound of its side
  abbrev pub dual_in : ℚ → ℕ → ℚ
  dual_in t i =
      value_of_side f.sample (theta_of f t) (held_coordinate f.sample.columns at (basic_at t)) i (side_at f.sample at a i)

  -- how far the dual value at position j is from its bound in a direction
  abbrev pub slope_in : ℚ → ℕ → Direction → ℚ
  slope_in t j Upward = up_cost f.sample (theta_of f t) (at j) -ℚ basic_at t j
  slope_in t j Downward = down_cost f.sample (theta_of f t) (at j) +ℚ basic_at t j

  -- the parts in t of the dual value at position j
  abbrev pub value_part : Part → ℕ → ℚ
  value_part Constant j =
      part_of f.parameter Constant (basic_dual f.sample at a Constant j) (basic_dual f.sample at a Linear j)
  value_part Linear j =
      part_of f.parameter Linear (basic_dual f.sample at a Constant j) (basic_dual f.sample at a Linear j)
      +ℚ coordinate f.sample.columns a f.right j

  -- and those of a slope
  abbrev pub slope_part : Part → ℕ → Direction → ℚ
  slope_part part j Upward = part_of f.parameter part (f.sample.up0 (at j)) (f.sample.up1 (at j)) -ℚ value_part part j
  slope_part part j Downward = part_of f.parameter part (f.sample.down0 (at j)) (f.sample.down1 (at j)) +ℚ value_part part j

  -- no slope is negative at t
  abbrev pub IsOptimalIn : ℚ → Type 0
  IsOptimalIn t = (j : ℕ) (d : Direction) → j < f.sample.columns → whole (pos 0) ≤ℚ slope_in t j d
