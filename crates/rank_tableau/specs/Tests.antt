-- Inner. The test of a column.
use Rattle.std.specs.Prelude.{◌≡◌, ℕ, ◌≤◌, length, pos}
use Rattle.rational_laws.specs.Fraction.{Fraction}
use Rattle.rational_laws.specs.Rational.{ℚ, whole}
use Rattle.loss_model.specs.Problem.{number_at, sample}
use Rattle.loss_model.specs.Strict.{◌<ℚ◌}
use Rattle.rank_model.specs.Restricted.{IsProjection, squared_length, rank_bound}
use Rattle.whole_tableau.specs.Kept.{Kept}
use Rattle.rank_tableau.specs.Founds.{bound_by}
use Rattle.rank_tableau.specs.declared.testing.ColumnTest.{ColumnTest}

-- the factors project the column, and the bound for the problem is that of what they leave
pub record IsColumnTest {F : Type 0} (value : F → Fraction) (k : Kept F) (c : ℕ) (tau crit : ℚ) (t : ColumnTest) : Type 0 where
  pub size : length t.factors ≡ k.problem.columns
  pub projection : IsProjection (sample value k.problem) c (number_at t.factors)
  pub positive : whole (pos 0) <ℚ squared_length (sample value k.problem) c (number_at t.factors)
  pub under : 1 ≤ t.reach.under
  pub bound : bound_by k c t.reach ≡ rank_bound tau crit (squared_length (sample value k.problem) c (number_at t.factors))
