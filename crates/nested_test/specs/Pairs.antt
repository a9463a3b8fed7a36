-- Inner. Sums over pairs of tested columns.
use Rattle.std.specs.Prelude.{◌≡◌, ℕ, ◌<◌, All, length, slice_index}
use Rattle.rational_laws.specs.Rational.{ℚ, ◌*ℚ◌}
use Rattle.rational_laws.specs.RationalSums.{sum_ℚ}
use Rattle.loss_model.specs.Problem.{value_at}
use Rattle.basis_inverse.specs.Square.{entries}
use Rattle.nested_test.specs.declared.statistic.Pairs.{Pairs}

-- the tested columns at 0, .., at (n - 1) with their scores, in this order, and the entries a of an inverse
module _ (at : ℕ → ℕ) (n : ℕ) (a : ℕ → ℕ → ℚ) (score : ℕ → ℚ) where
  -- the term of a pair: the first score times the entry, times the second score
  abbrev pub pair : ℕ → ℕ → ℚ
  pair j m = (score j *ℚ a (at j) (at m)) *ℚ score m

  -- that of all pairs
  abbrev pub pairs : ℚ
  pairs = sum_ℚ n (λ j. sum_ℚ n (pair j))

-- there is a score for each tested column, and each is one of the inverse
pub record ArePairs (p : Pairs) : Type 0 where
  pub within : All (λ k. k < length p.inverse.now) p.tested.now
  pub scored : length p.scores.now ≡ length p.tested.now

-- the same of what the program holds
module _ (p : Pairs) where
  abbrev pub pair_of : ℕ → ℕ → ℚ
  pair_of = pair (slice_index p.tested.now) (length p.tested.now) (entries (λ x. x) p.inverse.now) (value_at (λ x. x) p.scores.now)

  abbrev pub sum_of_row : ℕ → ℚ
  sum_of_row j = sum_ℚ (length p.tested.now) (pair_of j)

  abbrev pub sum_of_all : ℚ
  sum_of_all = pairs (slice_index p.tested.now) (length p.tested.now) (entries (λ x. x) p.inverse.now) (value_at (λ x. x) p.scores.now)
