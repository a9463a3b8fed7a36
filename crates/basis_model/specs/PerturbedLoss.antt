-- Law. What a trail improves where every response is perturbed: lists, which are compared at their first
-- entry that differs. A step lowers the perturbed loss, or else how it changes with theta; where one
-- coefficient is moved, it moves that.
use Rattle.std.specs.Prelude.{ℕ, zero, suc, pos}
use Rattle.rational_laws.specs.Rational.{ℚ, ◌*ℚ◌, whole}
use Rattle.rational_laws.specs.RationalSums.{sum_ℚ}
use Rattle.loss_model.specs.declared.vertex.Side.{Side}
use Rattle.loss_model.specs.declared.vertex.Side.TheVariants.{Up, Down, Basic}
use Rattle.loss_model.specs.Sample.{Sample, up_cost, down_cost}
use Rattle.basis_model.specs.Perturbed.{perturbed, held_coordinate, turned}
use Rattle.basis_model.specs.Basis.{coefficient, outside_row, side_at}

-- the number of row i for its side, which for a row of the basis is not counted
abbrev pub by_side : (ℕ → ℚ) → (ℕ → ℚ) → ℕ → Side → ℚ
by_side up down i Up = up i
by_side up down i Down = down i
by_side up down i Basic = whole (pos 0)

module _ (p : Sample) (at : ℕ → ℕ) (a : ℕ → ℕ → ℚ) where
  -- entry m of the perturbed residual of row i, negated below the fit
  abbrev pub perturbed_size : ℕ → ℕ → ℚ
  perturbed_size m i = turned (side_at p at a i) (perturbed p.columns at (outside_row p at a i) m)

  -- entry m of the sum, over the rows outside the basis, of the number of their side times this list
  abbrev pub perturbed_sum : (ℕ → ℚ) → (ℕ → ℚ) → ℕ → ℚ
  perturbed_sum up down m = sum_ℚ p.rows (λ i. by_side up down i (side_at p at a i) *ℚ perturbed_size m i)

  -- the perturbed loss at theta: with the costs at theta
  abbrev pub perturbed_loss : ℚ → ℕ → ℚ
  perturbed_loss theta = perturbed_sum (up_cost p theta) (down_cost p theta)

  -- its change list, how it changes as theta rises: with the factors of theta in the costs
  abbrev pub change_list : ℕ → ℚ
  change_list = perturbed_sum p.up1 p.down1

  -- the perturbed coefficient of column k: the coefficient, and then the inverse's entry for each row of the basis
  abbrev pub perturbed_coefficient : ℕ → ℕ → ℚ
  perturbed_coefficient k zero = coefficient p at a k
  perturbed_coefficient k (suc m) = held_coordinate p.columns at (a k) m
