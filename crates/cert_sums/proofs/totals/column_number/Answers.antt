-- That of the cells of the column.
use Rattle.std.proofs.Common.{◌<◌, arith}
use Rattle.frac_core.specs.Values.{value as value128}
use Rattle.loss_model.specs.Problem.{sample}
use Rattle.cert_sums.proofs.Balanced.{entry_cells}
use Rattle.cert_sums.proofs.totals.column_number.Goals as goal

pub returns : goal.returns
returns c = λ e k.
    let p = c.args.problem.now in
    let column = c.args.column in
    let here : column < p.columns = omega arith in
    c.in_ok-found.ensures {u = tt} e (λ i. (sample value128 p).x i column) k (entry_cells p c.args.table.now c.requires.table column here)
