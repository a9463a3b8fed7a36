-- Inner. A number along a direction.
use Rattle.rational_laws.specs.Rational.{ℚ, neg_ℚ}
use Rattle.pivot_model.specs.declared.direction.Direction.{Direction}
use Rattle.pivot_model.specs.declared.direction.Direction.TheVariants.{Upward, Downward}

-- a change in a direction
abbrev pub turned_by : Direction → ℚ → ℚ
turned_by Upward x = x
turned_by Downward x = neg_ℚ x
