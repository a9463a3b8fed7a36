-- Inner. The walks of a tested value as the code has them.
use Rattle.std.specs.Prelude.{ℕ}
use Rattle.rational_laws.specs.Fraction.{Fraction, rational}
use Rattle.rational_laws.specs.Rational.{ℚ, ◌-ℚ◌, ◌*ℚ◌, inverse}
use Rattle.loss_model.specs.Sample.{Sample}
use Rattle.basis_model.specs.Basis.{dual_value}
use Rattle.pivot_model.specs.declared.direction.Direction.{Direction}
use Rattle.walk_model.specs.Families.{Family}
use Rattle.rank_walk_model.specs.RankWalks.{tested}
use Rattle.rank_walk_model.specs.Crossings.{parameter_of, bound_towards, IsMoving}
use Rattle.rank_steps.specs.Ways.{way_of}
use Rattle.rank_inversion.specs.declared.course.Course.{Course}

module _ {F : Type 0} (value : F → Fraction) where
  -- the quantile, and the bound
  abbrev pub tau_of : Course F → ℚ
  tau_of c = rational (value c.tau)

  abbrev pub bound_of : Course F → ℚ
  bound_of c = rational (value c.bound)

  -- the parameter where the column weighs so much
  abbrev pub parameter_at : Course F → F → ℚ
  parameter_at c weight = parameter_of (way_of c.way) (rational (value weight))

  -- the dual values over the parameter
  abbrev pub family_of : Sample → Course F → Family
  family_of p c = tested (way_of c.way) p (tau_of c) c.column

  -- the dual value at position j moves in this direction
  abbrev pub Moves : Course F → (ℕ → ℕ → ℚ) → ℕ → Direction → Type 0
  Moves c a j d = IsMoving (way_of c.way) d (a c.column j)

  -- the parameter at which it meets its bound
  abbrev pub crossing_at : Sample → (ℕ → ℕ) → (ℕ → ℕ → ℚ) → Course F → ℕ → Direction → ℚ
  crossing_at p at a c j d =
      parameter_of (way_of c.way) ((bound_towards p (tau_of c) (at j) d -ℚ dual_value p at a (tau_of c) j) *ℚ inverse (a c.column j))
