use Rattle.tv_penalty.specs.Smoothings.{bend_row, exact_penalty}
use Rattle.tv_penalty.specs.Views.{bend_seen, part_seen}
use Rattle.tv_penalty.proofs.Lists.{each_pushed}
use Rattle.tv_penalty.proofs.rows.put_rows.Goals as goal

pub loop-number-preserved : goal.loop-number-preserved
loop-number-preserved c =
    each_pushed exact_penalty bend_seen (bend_row c.args.columns.intercept c.args.columns.all c.args.columns.before (part_seen c.args.part.now)) _ _ c.bend-item.result _ _ _ _ c.loop-number-test.true c.bend-item.is c.loop-number.invariant
    c.in_ok-push.ensures.items c.in_ok-bend_row.ensures
