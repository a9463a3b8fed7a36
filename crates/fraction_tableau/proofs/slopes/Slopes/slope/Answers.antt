use Rattle.std.proofs.Common.{inl, inr}
use Rattle.std.proofs.lemmas.Result.{err_from_is_err_and}
use Rattle.pivot_model.specs.Spills.{of_cost}
use Rattle.fraction_tableau.proofs.SlopeLaws.{up_slope, down_slope, up_slope_spill, down_slope_spill}
use Rattle.fraction_tableau.proofs.slopes.Slopes.slope.Goals as goal

pub returns-in_err-cost-in-Upward-clause-spill : goal.returns-in_err-cost-in-Upward-clause-spill
returns-in_err-cost-in-Upward-clause-spill g c =
    let returned = err_from_is_err_and c.from_residual.result c.from_residual.ensures.1 in
    rw (returned.1, returned.2) (of_cost c.row_at-row.result c.row_at-row.ensures.within (inl (c.in_err-cost-in-Upward.ensures {u = tt}).spill))

pub returns-in_ok-cost-in-Upward-clause-exact : goal.returns-in_ok-cost-in-Upward-clause-exact
returns-in_ok-cost-in-Upward-clause-exact g c =
    rw c.in-Upward.is
    (up_slope c.requires.duals c.args.position c.row_at-row.result c.requires.position c.row_at-row.ensures.row c.in_ok-cost-in-Upward.cost c.index-self-position.result c.index-self-position.is c.slope_up.result
    (c.in_ok-cost-in-Upward.ensures {u = tt}).exact (rw (← c.index-self-position.is) at c.slope_up.ensures.exact))

pub returns-in_ok-cost-in-Upward-clause-spill : goal.returns-in_ok-cost-in-Upward-clause-spill
returns-in_ok-cost-in-Upward-clause-spill g c =
    up_slope_spill c.requires.duals c.args.position c.row_at-row.result c.requires.position c.row_at-row.ensures.row c.in_ok-cost-in-Upward.cost c.index-self-position.result c.index-self-position.is c.slope_up.result
    (c.in_ok-cost-in-Upward.ensures {u = tt}).exact g.F.Exact.range (rw (← c.index-self-position.is) at c.slope_up.ensures.spilled)

pub returns-in_err-cost-in-Downward-clause-spill : goal.returns-in_err-cost-in-Downward-clause-spill
returns-in_err-cost-in-Downward-clause-spill g c =
    let returned = err_from_is_err_and c.from_residual-in_err-cost-in-Downward.result c.from_residual-in_err-cost-in-Downward.ensures.1 in
    rw (returned.1, returned.2) (of_cost c.row_at-row.result c.row_at-row.ensures.within (inr (c.in_err-cost-in-Downward.ensures {u = tt}).spill))

pub returns-in_ok-cost-in-Downward-clause-exact : goal.returns-in_ok-cost-in-Downward-clause-exact
returns-in_ok-cost-in-Downward-clause-exact g c =
    rw c.in-Downward.is
    (down_slope c.requires.duals c.args.position c.row_at-row.result c.requires.position c.row_at-row.ensures.row c.in_ok-cost-in-Downward.cost c.index-self-position.result c.index-self-position.is c.slope_down.result
    (c.in_ok-cost-in-Downward.ensures {u = tt}).exact (rw (← c.index-self-position.is) at c.slope_down.ensures.exact))

pub returns-in_ok-cost-in-Downward-clause-spill : goal.returns-in_ok-cost-in-Downward-clause-spill
returns-in_ok-cost-in-Downward-clause-spill g c =
    down_slope_spill c.requires.duals c.args.position c.row_at-row.result c.requires.position c.row_at-row.ensures.row c.in_ok-cost-in-Downward.cost c.index-self-position.result c.index-self-position.is c.slope_down.result
    (c.in_ok-cost-in-Downward.ensures {u = tt}).exact g.F.Exact.range (rw (← c.index-self-position.is) at c.slope_down.ensures.spilled)
