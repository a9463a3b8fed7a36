use Rattle.std.proofs.Common.{refl}
use Rattle.report_text.proofs.Numbered.{numbered_more_at}
use Rattle.report_text.specs.ReportText.{coef_line}
use Rattle.report_text.proofs.page.Page.coef_lines.Goals as goal

pub loop-index-preserved : goal.loop-index-preserved
loop-index-preserved c =
    numbered_more_at coef_line 1 _ _ _ _ _ _ _ c.loop-index-test.true refl c.index-coef-index.is c.loop-index.invariant c.coef_line.ensures
