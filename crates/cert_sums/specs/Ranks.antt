-- Inner. What is shown of the projection of a rank interval, and of the dual values at its ends.
use Rattle.std.specs.Prelude.{◌≡◌, ℕ, ℤ, ◌<◌, ◌*ℤ◌, List, slice_get, pos}
use Rattle.std.specs.Option.{option_map_or}
use Rattle.rational_laws.specs.Fraction.{Fraction, rational}
use Rattle.rational_laws.specs.Order.{cmp_ℚ}
use Rattle.rational_laws.specs.Rational.{ℚ, ◌*ℚ◌, whole, ◌≤ℚ◌}
use Rattle.frac_core.specs.declared.frac128.Frac128.{Frac128}
use Rattle.frac_core.specs.Values.{value as value128}
use Rattle.loss_model.specs.declared.interval.IntervalProof.{IntervalProof}
use Rattle.loss_model.specs.declared.vertex.Side.{Side}
use Rattle.loss_model.specs.declared.vertex.Vertex.{Vertex}
use Rattle.loss_model.specs.Problem.{number_at}
use Rattle.loss_model.specs.Sample.{Sample}
use Rattle.loss_model.specs.Strict.{◌<ℚ◌}
use Rattle.rank_model.specs.Restricted.{column_sum, IsProjection, squared_length, rank_bound}
use Rattle.wide_int.specs.Numbers.{total}
use Rattle.cert_sums.specs.Duals.{side_in, dual_of}
use Rattle.cert_sums.specs.Sums.{IsBalancedBut}
use Rattle.cert_sums.specs.Within.{IsWithinCosts}
use Rattle.cert_sums.specs.declared.ranks.Standing.{Standing}
use Rattle.cert_sums.specs.declared.table.WholeRow.{WholeRow}

-- what some numbers leave of row i, times the square of its weight, or 0 beyond the last row
abbrev pub left_at : List WholeRow → List ℤ → ℕ → ℚ
left_at rows numbers i = option_map_or (λ w. whole ((total w.cells numbers *ℤ w.up.slope) *ℤ w.up.slope)) (slice_get rows i) (whole (pos 0))

-- a number is above 0
abbrev pub IsPositive : ℚ → Type 0
IsPositive x = whole (pos 0) <ℚ x

-- the values of basic rows are within their costs, and those of all rows orthogonal to each column but j
pub record IsHeldWithout (p : Sample) (j : ℕ) (theta : ℚ) (side : ℕ → Side) (e : ℕ → ℚ) : Type 0 where
  pub within : (i : ℕ) → i < p.rows → IsWithinCosts p theta (side i) (e i) i
  pub balanced : IsBalancedBut p j e

module _ (p : Sample) (t : IntervalProof) (v : Vertex) (basic : List Fraction) where
  -- the dual values of a vertex at the quantile of an interval
  abbrev pub values_at : ℕ → ℚ
  values_at i = dual_of p (rational t.tau) v basic i

  -- their statistic, and the square of it
  abbrev pub statistic : ℚ
  statistic = column_sum p values_at t.column

  abbrev pub square : ℚ
  square = statistic *ℚ statistic

  -- the bound of that
  abbrev pub bound : ℚ
  bound = rank_bound (rational t.tau) (rational t.crit) (squared_length p t.column (number_at t.projection))

  -- the values are within their costs in the basic rows, and orthogonal to the other columns
  abbrev pub IsHeld : Type 0
  IsHeld = IsHeldWithout p t.column (rational t.tau) (side_in v) values_at

  -- the factors of the interval are a projection
  abbrev pub IsProjected : Type 0
  IsProjected = IsProjection p t.column (number_at t.projection)

  -- a statistic, and how its square stands to the bound
  pub record IsStanding (found : Standing) : Type 0 where
    pub held : IsHeld
    pub projection : IsProjected
    pub value : rational (value128 found.statistic) ≡ statistic
    pub order : found.order ≡ cmp_ℚ square bound

  -- the square of the statistic is within the bound
  pub record IsInsideBound : Type 0 where
    pub held : IsHeld
    pub projection : IsProjected
    pub within : square ≤ℚ bound

  -- a statistic whose square is beyond the bound
  pub record IsBeyondBound (z : Frac128) : Type 0 where
    pub held : IsHeld
    pub projection : IsProjected
    pub value : rational (value128 z) ≡ statistic
    pub beyond : bound <ℚ square
