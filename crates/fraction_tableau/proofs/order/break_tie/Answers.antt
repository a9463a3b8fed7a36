use Rattle.std.proofs.lemmas.Result.{err_from_is_err_and}
use Rattle.lex_rule.specs.Compared.{of_ratio}
use Rattle.fraction_tableau.proofs.Ties.{coordinates_spill, tie_exact, tie_spill}
use Rattle.fraction_tableau.proofs.order.break_tie.Goals as goal

pub returns-in_err-left_coords-clause-spill : goal.returns-in_err-left_coords-clause-spill
returns-in_err-left_coords-clause-spill g c =
    let returned = err_from_is_err_and c.from_residual.result c.from_residual.ensures.1 in
    rw (returned.1, returned.2) (coordinates_spill g.F.Exact.value c.args.line.now c.requires.line g.F.Exact.range c.args.left _ c.requires.left (c.in_err-left_coords.ensures {u = tt}).spill)

pub returns-in_err-right_coords-clause-spill : goal.returns-in_err-right_coords-clause-spill
returns-in_err-right_coords-clause-spill g c =
    let returned = err_from_is_err_and c.from_residual-in_err-right_coords.result c.from_residual-in_err-right_coords.ensures.1 in
    rw (returned.1, returned.2) (coordinates_spill g.F.Exact.value c.args.line.now c.requires.line g.F.Exact.range c.args.right _ c.requires.right (c.in_err-right_coords.ensures {u = tt}).spill)

pub returns-in-Ok-clause-exact : goal.returns-in-Ok-clause-exact
returns-in-Ok-clause-exact g c =
    let value = g.F.Exact.value in
    let l = c.args.line.now in
    let first = c.ratio_of-first in
    let second = c.ratio_of-second in
    let compared = rw c.basis.ensures.rows at (c.in-Ok.ensures {u = tt}) in
    tie_exact value l c.requires.line c.args.left c.args.right (of_ratio value first.result) (of_ratio value second.result) c.in-Ok.less c.requires.left c.requires.right first.ensures.same second.ensures.same compared.less

pub returns-clause-spill : goal.returns-clause-spill
returns-clause-spill g c =
    let value = g.F.Exact.value in
    let l = c.args.line.now in
    let first = c.ratio_of-first in
    let second = c.ratio_of-second in
    let compared = rw c.basis.ensures.rows at (c.in-Err.ensures {u = tt}) in
    tie_spill value l c.requires.line g.F.Exact.range c.args.left c.args.right (of_ratio value first.result)
    (of_ratio value second.result) c.in-Err.spill c.requires.differ c.requires.left c.requires.right c.requires.left_moves c.requires.right_moves first.ensures.same second.ensures.same compared.spill
