-- Stated. The integral of a function of fractions, by what an area under it is; and the function that is affine
-- between two values.
use Rattle.std.specs.Prelude.{◌≡◌}
use Rattle.rational_laws.specs.Rational.{ℚ, ◌+ℚ◌, ◌-ℚ◌, ◌*ℚ◌, inverse, ◌≤ℚ◌}

-- nowhere from a to b is f below m
abbrev pub IsAtLeast : (ℚ → ℚ) → ℚ → ℚ → ℚ → Type 0
IsAtLeast f a b m = (t : ℚ) → a ≤ℚ t → t ≤ℚ b → m ≤ℚ f t

-- nowhere from a to b is f above m
abbrev pub IsAtMost : (ℚ → ℚ) → ℚ → ℚ → ℚ → Type 0
IsAtMost f a b m = (t : ℚ) → a ≤ℚ t → t ≤ℚ b → f t ≤ℚ m

-- the area under f up to each point from lo to hi: between two of them it grows by no less than their distance times a bound of
-- f from below, and by no more than their distance times a bound from above
pub record IsArea (f : ℚ → ℚ) (lo hi : ℚ) (area : ℚ → ℚ) : Type 0 where
  pub at_least : (a b m : ℚ) → lo ≤ℚ a → a ≤ℚ b → b ≤ℚ hi → IsAtLeast f a b m → (m *ℚ (b -ℚ a)) ≤ℚ (area b -ℚ area a)
  pub at_most : (a b m : ℚ) → lo ≤ℚ a → a ≤ℚ b → b ≤ℚ hi → IsAtMost f a b m → (area b -ℚ area a) ≤ℚ (m *ℚ (b -ℚ a))

-- x is the integral of f from lo to hi: the growth of such an area between them
pub record IsIntegral (f : ℚ → ℚ) (lo hi x : ℚ) : Type 0 where
  pub area : ℚ → ℚ
  pub is : IsArea f lo hi area
  pub grown : x ≡ area hi -ℚ area lo

-- a at lo, b at hi, and affine between them
abbrev pub line : ℚ → ℚ → ℚ → ℚ → ℚ → ℚ
line lo hi a b theta = a +ℚ (((b -ℚ a) *ℚ inverse (hi -ℚ lo)) *ℚ (theta -ℚ lo))
