-- Inner. The test of a column, as it is made.
use Rattle.std.specs.Prelude.{◌≡◌, length, pos}
use Rattle.rational_laws.specs.Fraction.{Fraction, rational}
use Rattle.rational_laws.specs.Rational.{whole}
use Rattle.loss_model.specs.declared.problem.Problem.{Problem}
use Rattle.loss_model.specs.Problem.{number_at, sample}
use Rattle.loss_model.specs.Strict.{◌<ℚ◌}
use Rattle.rank_model.specs.Restricted.{IsProjection, squared_length, rank_bound}
use Rattle.rank_inversion.specs.declared.column_test.Asked.{Asked}
use Rattle.rank_inversion.specs.declared.column_test.RankTest.{RankTest}

-- the test is by a projection of the column, which leaves a length, and the bound by it
pub record IsTested {F : Type 0} (value : F → Fraction) (p : Problem F) (asked : Asked F) (t : RankTest F) : Type 0 where
  pub size : length t.factors ≡ p.columns
  pub projection : IsProjection (sample value p) asked.column (number_at t.factors)
  pub positive : whole (pos 0) <ℚ squared_length (sample value p) asked.column (number_at t.factors)
  pub bound : rational (value t.bound)
      ≡ rank_bound (rational (value asked.tau)) (rational (value asked.crit)) (squared_length (sample value p) asked.column (number_at t.factors))
