-- Stated. Where a walk of a tested value ends without a row that moves towards 0: the direction in which the
-- coefficients may go on for ever.
use Rattle.std.specs.Prelude.{ℕ}
use Rattle.rational_laws.specs.Rational.{ℚ, ◌*ℚ◌, neg_ℚ, inverse}

-- the direction of position j, scaled to 1 at column c
abbrev pub ray_up : (ℕ → ℕ → ℚ) → ℕ → ℕ → ℕ → ℚ
ray_up a c j k = a k j *ℚ inverse (a c j)

-- and to -1
abbrev pub ray_down : (ℕ → ℕ → ℚ) → ℕ → ℕ → ℕ → ℚ
ray_down a c j k = neg_ℚ (a k j *ℚ inverse (a c j))
