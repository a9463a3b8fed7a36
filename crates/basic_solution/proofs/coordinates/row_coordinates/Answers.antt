use Rattle.basic_solution.proofs.Filled.{values_more}
use Rattle.basic_solution.proofs.coordinates.row_coordinates.Goals as goal

pub loop-position-preserved : goal.loop-position-preserved
loop-position-preserved g c = values_more g.F.Exact.value _ _ _ c.in_ok-add.ensures.added c.loop-position.invariant (c.in_ok-coordinate.ensures {u = tt}).exact
