use Rattle.formula_arith.proofs.Progress.{all_counted, uncounted}
use Rattle.formula_arith.proofs.count.count_of.Goals as goal

pub returns-in_err-count : goal.returns-in_err-count
returns-in_err-count c =
    let l = c.loop-op in
    rw c.from_residual.ensures
    (uncounted c.args.code.now l.op-index c.op-item.result l.count c.numbered.result c.loop-op-test.true c.op-item.is l.invariant.counted c.numbered.ensures c.in_err-count.ensures)

pub returns : goal.returns
returns c = all_counted c.args.code.now c.loop-op.op-index c.loop-op.count c.loop-op-test.false c.loop-op.invariant.counted c.loop-op.invariant.short
