-- The test of a column, by the factors over its whole rows.
use Rattle.std.specs.Prelude.{◌≡◌, ◌≢◌, ℕ, ◌<◌, ◌≤◌, List, length, pos}
use Rattle.rational_laws.specs.Fraction.{Fraction}
use Rattle.rational_laws.specs.Rational.{ℚ, whole}
use Rattle.loss_model.specs.Problem.{number_at, sample}
use Rattle.loss_model.specs.Sample.{Sample}
use Rattle.loss_model.specs.Strict.{◌<ℚ◌}
use Rattle.rank_model.specs.Restricted.{IsProjection, squared_length, rank_bound}
use Rattle.whole_inverse.specs.Shares.{share}
use Rattle.whole_rows.specs.Scaled.{IsScaled}
use Rattle.whole_rows.specs.Wholes.{factor_at, factor_value}
use Rattle.whole_tableau.specs.Kept.{Kept, wholes_of}
use Rattle.gram_check.specs.Laws.{unscaled_factors}
use Rattle.rank_tableau.specs.Tests.{IsColumnTest}
use Rattle.rank_tableau.specs.declared.reach.Square.{Square}
use Rattle.rank_tableau.proofs.Projections.{projects_there, bound_there, positive_there}

module _ {F : Type 0} (value : F → Fraction) (k : Kept F) (j : ℕ) (c : ℕ → ℚ) (reach : Square) (tau crit : ℚ) where
  abbrev p : Sample
  p = sample value k.problem

  abbrev q : Sample
  q = wholes_of k

  abbrev s : ℕ → ℚ
  s = factor_at k.setting.wholes.factors

  abbrev ly : ℚ
  ly = factor_value k.setting.wholes.response

  abbrev lc : ℚ
  lc = factor_value k.setting.wholes.cost

  module _ (lj : j < k.problem.columns) (h : IsScaled p q s ly lc) (some : (m : ℕ) → m < k.problem.columns → s m ≢ whole (pos 0)) (cost : lc ≢ whole (pos 0))
      (projection : IsProjection q j c) (positive : whole (pos 0) <ℚ squared_length q j c) (under : 1 ≤ reach.under)
      (bound : share (pos reach.over) (pos reach.under) ≡ rank_bound tau crit (squared_length q j c)) where
    pub test_is : (e : List Fraction) → length e ≡ k.problem.columns → ((m : ℕ) → m < k.problem.columns → number_at e m ≡ unscaled_factors s j c m)
        → IsColumnTest value k j tau crit (record { factors = e; reach = reach })
    test_is e size each =
        record {
          size = size;
          projection = projects_there p q s ly lc j c (number_at e) lj h some cost projection each;
          positive = positive_there p q s ly lc j c (number_at e) lj h some cost projection each positive;
          under = under;
          bound = bound_there p q s ly lc j c (number_at e) lj h some cost projection each tau crit _ bound;
        }
