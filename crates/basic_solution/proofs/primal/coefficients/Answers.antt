use Rattle.basic_solution.proofs.Filled.{values_more}
use Rattle.basic_solution.proofs.primal.coefficients.Goals as goal

pub loop-column-preserved : goal.loop-column-preserved
loop-column-preserved g c = values_more g.F.Exact.value _ _ _ c.in_ok-add.ensures.added c.loop-column.invariant (c.in_ok-coefficient.ensures {u = tt}).exact
