-- Stated. The costs at theta, and the dual values that stand at a basis.
use Rattle.std.specs.Prelude.{ℕ, ◌<◌, pos}
use Rattle.rational_laws.specs.Rational.{ℚ, ◌+ℚ◌, whole, ◌≤ℚ◌}
pub use Rattle.loss_model.specs.Strict.{◌<ℚ◌}
use Rattle.loss_model.specs.Sample.{Sample, up_cost, down_cost}
use Rattle.loss_model.specs.Vertex.{value_of_side}
use Rattle.basis_model.specs.Perturbed.{held_coordinate}
use Rattle.basis_model.specs.Basis.{side_at, dual_value}

-- at theta the costs of each row are not negative, and their sum is positive
pub record HasCosts (p : Sample) (theta : ℚ) : Type 0 where
  pub up : (i : ℕ) → i < p.rows → whole (pos 0) ≤ℚ up_cost p theta i
  pub down : (i : ℕ) → i < p.rows → whole (pos 0) ≤ℚ down_cost p theta i
  pub some : (i : ℕ) → i < p.rows → whole (pos 0) <ℚ (up_cost p theta i +ℚ down_cost p theta i)

-- the dual value of row i at theta: that of its position in the basis, or the bound of its side
abbrev pub dual : Sample → (ℕ → ℕ) → (ℕ → ℕ → ℚ) → ℚ → ℕ → ℚ
dual p at a theta i =
    value_of_side p theta (held_coordinate p.columns at (dual_value p at a theta)) i (side_at p at a i)
