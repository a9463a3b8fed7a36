-- Inner. The least row of a basis in a range that has a coordinate.
use Rattle.std.specs.Prelude.{◌≡◌, ℕ, ◌<◌, ◌≤◌, Option, Some, None, pos}
use Rattle.rational_laws.specs.Rational.{ℚ, whole}

-- the coordinates u and v at position j are both 0
pub record AreZeroAt (u v : ℕ → ℚ) (j : ℕ) : Type 0 where
  pub left : u j ≡ whole (pos 0)
  pub right : v j ≡ whole (pos 0)

-- they are at every position that holds a row from `from` on and before `to`
abbrev pub AreZeroBetween : ℕ → (ℕ → ℕ) → (ℕ → ℚ) → (ℕ → ℚ) → ℕ → ℕ → Type 0
AreZeroBetween n at u v from to = (j : ℕ) → j < n → from ≤ at j → at j < to → AreZeroAt u v j

-- position k holds the least row of the range at which they are not
pub record IsNextAt (n : ℕ) (at : ℕ → ℕ) (u v : ℕ → ℚ) (from to k : ℕ) : Type 0 where
  pub within : k < n
  pub above : from ≤ at k
  pub below : at k < to
  pub some : ¬ AreZeroAt u v k
  pub least : AreZeroBetween n at u v from (at k)

-- such a position, or none
abbrev pub IsNextPosition : ℕ → (ℕ → ℕ) → (ℕ → ℚ) → (ℕ → ℚ) → ℕ → ℕ → Option ℕ → Type 0
IsNextPosition n at u v from to None = AreZeroBetween n at u v from to
IsNextPosition n at u v from to (Some k) = IsNextAt n at u v from to k
