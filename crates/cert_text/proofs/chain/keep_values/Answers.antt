use Rattle.std.proofs.Common.{true, false, sym, arith}
use Rattle.cert_text.proofs.Chained.{all_kept, kept_next}
use Rattle.cert_text.proofs.chain.keep_values.Goals as goal

pub returns-then-row-now : goal.returns-then-row-now
returns-then-row-now c = sym (all_kept c.args.before.now c.args.now.now c.loop-row.row c.loop-row.invariant (omega (arith, c.if-row-now.true)))

pub returns-then-not-keeps_value : goal.returns-then-not-keeps_value
returns-then-not-keeps_value c =
    sym (kept_next c.args.before.now c.args.now.now c.loop-row.row c.loop-row.invariant c.index-before-row.result c.index-now-row.result
    c.loop-row-test.true c.if-row-now.false c.index-before-row.is c.index-now-row.is false (sym (c.if-not-keeps_value.ensures {u = tt})))

pub loop-row-preserved : goal.loop-row-preserved
loop-row-preserved c =
    kept_next c.args.before.now c.args.now.now c.loop-row.row c.loop-row.invariant c.index-before-row.result c.index-now-row.result
    c.loop-row-test.true c.if-row-now.false c.index-before-row.is c.index-now-row.is true (sym (c.if-not-keeps_value.ensures {u = tt}))
