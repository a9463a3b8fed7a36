use Rattle.std.proofs.Common.{◌<◌, length, get_or, ap, arith}
use Rattle.loss_model.specs.declared.problem.Row.{Row}
use Rattle.whole_rows.proofs.rows.column_values.Goals as goal

pub bounds-as_slice-k : goal.bounds-as_slice-k
bounds-as_slice-k g c =
    let row = c.index-rows-i.result in
    let wide : c.args.k < length (get_or c.args.rows.now c.loop-i.i row).x = c.requires c.loop-i.i row c.loop-i-test.true in
    omega (arith, wide, ap length c.as_slice.ensures, ap (λ (r : Row g.row.F.Denot). length r.x) c.index-rows-i.is)
