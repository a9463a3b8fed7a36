use Rattle.std.proofs.Common.{◌<◌, length, arith, ◌∙◌}
use Rattle.loss_model.proofs.Products.{value_read}
use Rattle.basic_solution.proofs.Filled.{sides_more}
use Rattle.basic_solution.proofs.Exits.{by_exit, by_cause}
use Rattle.basic_solution.proofs.signs.sides.Goals as goal

pub loop-row-preserved : goal.loop-row-preserved
loop-row-preserved g c = sides_more _ _ _ (c.in_ok-add.ensures {u = tt}).added c.loop-row.invariant (c.in_ok-side.ensures {u = tt}).side

pub overflow_cast-row : goal.overflow_cast-row
overflow_cast-row g c = omega (arith, c.loop-row-test.true, c.requires.size, c.requires.shaped.rows)

pub side_of_row-requires-clause-residual : goal.side_of_row-requires-clause-residual
side_of_row-requires-clause-residual g c κs within =
    let inside : c.loop-row.row < length c.args.problem.now.rows = omega (arith, c.loop-row-test.true, c.requires.size) in
    value_read g.F.Exact.value c.args.residuals.now c.loop-row.row c.index-residuals-row.result c.loop-row-test.true c.index-residuals-row.is ∙ c.requires.residuals c.loop-row.row inside

pub returns-in_err-side-clause-spill : goal.returns-in_err-side-clause-spill
returns-in_err-side-clause-spill g c =
    let inside : c.loop-row.row < length c.args.problem.now.rows = omega (arith, c.loop-row-test.true, c.requires.size) in
    by_cause c.from_residual.result _ _ _ c.from_residual.ensures.1 (λ s h. (c.loop-row.row, inside, h)) (c.in_err-side.ensures {u = tt}).spill

pub returns-in_err-add-clause-spill : goal.returns-in_err-add-clause-spill
returns-in_err-add-clause-spill g c = by_exit c.from_residual-in_err-add.result _ _ c.from_residual-in_err-add.ensures.1 tt
