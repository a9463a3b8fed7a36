use Rattle.std.proofs.Common.{arith}
use Rattle.report_text.specs.FaultText.{listed}
use Rattle.report_text.proofs.Numbered.{numbered_more_at}
use Rattle.report_text.proofs.page.Page.put_numbers.Goals as goal

pub loop-place-preserved : goal.loop-place-preserved
loop-place-preserved c =
    numbered_more_at listed 0 c.args.numbers.now c.loop-place.place _ _ _ _ _ c.loop-place-test.true (omega arith) c.index-numbers-place.is c.loop-place.invariant c.put_listed.ensures
