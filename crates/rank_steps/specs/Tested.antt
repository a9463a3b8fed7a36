-- Inner. The crossings of a station on a walk of a tested value.
use Rattle.std.specs.Prelude.{ℕ, ◌<◌, length}
use Rattle.rational_laws.specs.Rational.{ℚ, ◌-ℚ◌, ◌*ℚ◌, inverse}
use Rattle.basis_model.specs.Basis.{dual_value}
use Rattle.pivot_model.specs.declared.direction.Direction.{Direction}
use Rattle.rank_walk_model.specs.Crossings.{parameter_of, bound_towards, IsMoving}
use Rattle.whole_steps.specs.declared.station.Station.{Station}
use Rattle.whole_steps.specs.Stations.{model, at_of, inverse_at}
use Rattle.whole_steps.specs.Quantiles.{IsQuantile, theta_of}
use Rattle.rank_steps.specs.declared.crossings.WholeCourse.{WholeCourse}
use Rattle.rank_steps.specs.Ways.{way_of}

module _ (s : Station) (c : WholeCourse) where
  -- the column is one of the station's, and the quantile's second part is positive
  pub record IsCourse : Type 0 where
    pub column : c.column < length s.basis.now.inverse.now.columns
    pub theta : IsQuantile c.theta

  -- the dual value at position k moves in this direction
  abbrev pub Moves : ℕ → Direction → Type 0
  Moves k d = IsMoving (way_of c.way) d (inverse_at s c.column k)

  -- the parameter at which it meets its bound
  abbrev pub crossing_at : ℕ → Direction → ℚ
  crossing_at k d =
      parameter_of (way_of c.way)
      ((bound_towards (model s) (theta_of c.theta) (at_of s k) d -ℚ dual_value (model s) (at_of s) (inverse_at s) (theta_of c.theta) k)
      *ℚ inverse (inverse_at s c.column k))
