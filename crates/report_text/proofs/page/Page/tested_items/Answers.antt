use Rattle.std.proofs.Common.{arith}
use Rattle.report_text.specs.ReportText.{tested_item}
use Rattle.report_text.proofs.Numbered.{numbered_more}
use Rattle.report_text.proofs.page.Page.tested_items.Goals as goal

pub loop-place-preserved : goal.loop-place-preserved
loop-place-preserved c =
    numbered_more tested_item 0 c.args.tested.now c.loop-place.place _ _ _ _ _ c.loop-place-test.true (omega arith) c.loop-place.invariant c.tested_item.ensures
