-- How a row changes along a direction, by its coordinate.
use Rattle.std.specs.Prelude.{◌≡◌, ℕ}
use Rattle.std.proofs.Common.{refl}
use Rattle.rational_laws.specs.Rational.{ℚ}
use Rattle.loss_model.specs.Sample.{Sample}
use Rattle.basis_model.specs.Basis.{coord}
use Rattle.pivot_model.specs.declared.direction.Direction.{Direction}
use Rattle.pivot_model.specs.declared.direction.Direction.TheVariants.{Upward, Downward}
use Rattle.pivot_model.specs.Steps.{change}
use Rattle.tableau_model.specs.Turns.{turned_by}

pub change_turned : (d : Direction) (p : Sample) (at : ℕ → ℕ) (a : ℕ → ℕ → ℚ) (j i : ℕ) → change p at a j d i ≡ turned_by d (coord p a i j)
change_turned Upward p at a j i = refl
change_turned Downward p at a j i = refl
