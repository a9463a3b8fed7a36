-- Stated. The rows of a basis among all rows: a basis lists row `at j` for each position j below n.
use Rattle.std.specs.Prelude.{◌≢◌, ℕ, zero, suc, ◌<◌, Bool, true, false, if◌then◌else◌, ◌==◌, pos}
use Rattle.rational_laws.specs.Rational.{ℚ, whole}

-- whether i is one of at 0, .., at (n - 1)
abbrev pub is_among : (ℕ → ℕ) → ℕ → ℕ → Bool
is_among at zero i = false
is_among at (suc n) i = if i == at n then true else is_among at n i

-- at 0, .., at (n - 1) are different numbers below `rows`
pub record AreDistinct (at : ℕ → ℕ) (n rows : ℕ) : Type 0 where
  pub within : (j : ℕ) → j < n → at j < rows
  pub apart : (j k : ℕ) → j < k → k < n → at j ≢ at k

-- the terms of f at the listed indices, and 0 at the others
abbrev pub among : (ℕ → ℕ) → ℕ → (ℕ → ℚ) → ℕ → ℚ
among at n f i = if is_among at n i then f i else whole (pos 0)
