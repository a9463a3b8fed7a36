-- What the work for one quantile and for one column needs.
use Rattle.std.proofs.Common.{◌<◌, pos}
use Rattle.rational_laws.specs.Fraction.{Fraction, rational}
use Rattle.rational_laws.specs.Rational.{whole}
use Rattle.rational_laws.proofs.OrderLaws.{le_from_not}
use Rattle.loss_model.specs.declared.problem.Problem.{Problem}
use Rattle.loss_model.specs.Problem.{sample}
use Rattle.pivot_model.specs.Duals.{HasCosts}
use Rattle.rank_inversion.specs.Inversions.{IsAskable}
use Rattle.rank_inversion.specs.declared.column_test.Asked.{Asked}
use Rattle.pivot_model.proofs.DataRows.{data_costs}
use Rattle.rank_inversion.specs.RankProblems.{IsInner, IsRankable}

module _ {F : Type 0} (value : F → Fraction) (p : Problem F) where
  -- what is asked of a problem such as intervals are asked of
  pub askable : (asked : Asked F) → IsRankable value p asked.crit → IsInner (rational (value asked.tau)) → asked.column < p.columns → IsAskable value p asked
  askable asked rankable inner within =
      record {
        shaped = rankable.shaped;
        column = within;
        tau_above = inner.0;
        tau_below = inner.1;
        crit = rankable.crit_sign;
        data_rows = rankable.data_rows;
      }

  -- its rows have costs at the quantile
  pub inner_costs : (crit tau : F) → IsRankable value p crit → IsInner (rational (value tau)) → HasCosts (sample value p) (rational (value tau))
  inner_costs crit tau rankable inner =
      data_costs (sample value p) (rational (value tau)) (le_from_not (whole (pos 0)) (rational (value tau)) inner.0)
      (le_from_not (rational (value tau)) (whole (pos 1)) inner.1) rankable.data_rows
