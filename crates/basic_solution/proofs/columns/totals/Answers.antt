use Rattle.basic_solution.proofs.Filled.{values_more}
use Rattle.basic_solution.proofs.Exits.{by_exit}
use Rattle.basic_solution.proofs.columns.totals.Goals as goal

pub loop-column-preserved : goal.loop-column-preserved
loop-column-preserved g c = values_more g.F.Exact.value _ _ _ c.in_ok-add.ensures.added c.loop-column.invariant (c.in_ok-total.ensures {u = tt}).exact

pub returns-in_err-total-clause-spill : goal.returns-in_err-total-clause-spill
returns-in_err-total-clause-spill g c = by_exit c.from_residual.result _ _ c.from_residual.ensures.1 (c.loop-column.column, c.loop-column-test.true, (c.in_err-total.ensures {u = tt}).spilled)

pub returns-in_err-add-clause-spill : goal.returns-in_err-add-clause-spill
returns-in_err-add-clause-spill g c = by_exit c.from_residual-in_err-add.result _ _ c.from_residual-in_err-add.ensures.1 tt
