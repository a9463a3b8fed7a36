-- A row that is refused is refused to all.
use Rattle.std.proofs.Common.{◌<◌, length, arith, ◌∙◌}
use Rattle.std.proofs.lemmas.Result.{err_from_is_err_and}
use Rattle.loss_model.proofs.Products.{value_read}
use Rattle.loss_model.proofs.Sides.{side_read}
use Rattle.fraction_tableau.proofs.movers.movers.Goals as goal

pub offer-requires-clause-side : goal.offer-requires-clause-side
offer-requires-clause-side g c κs within =
    let row = c.loop-row.row in
    let here : row < length c.args.line.now.tableau.now.problem.rows = omega (arith, c.requires.sides.size, c.loop-row-test.true) in
    side_read c.args.sides.now row _ c.loop-row-test.true ∙ c.requires.sides.each row here

pub offer-requires-clause-coord : goal.offer-requires-clause-coord
offer-requires-clause-coord g c κs within =
    let row = c.loop-row.row in
    let here : row < length c.args.line.now.tableau.now.problem.rows = omega (arith, c.requires.sides.size, c.loop-row-test.true) in
    let held : row < length c.args.coords.now = omega (arith, c.requires.coords.size, here) in
    value_read g.F.Exact.value c.args.coords.now row c.index-coords-row.result held c.index-coords-row.is ∙ c.requires.coords.each row here

pub loop-row-preserved : goal.loop-row-preserved
loop-row-preserved g c = (c.in_ok-offer.ensures {u = tt}).found

pub returns-in_err-offer-clause-spill : goal.returns-in_err-offer-clause-spill
returns-in_err-offer-clause-spill g c =
    let r = err_from_is_err_and c.from_residual.result c.from_residual.ensures.1 in
    rw (r.1, r.2) (c.in_err-offer.ensures {u = tt}).spill
