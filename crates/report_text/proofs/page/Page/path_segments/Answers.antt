use Rattle.std.proofs.Common.{refl}
use Rattle.report_text.proofs.Numbered.{numbered_more_at}
use Rattle.report_text.specs.ReportText.{path_segment_text}
use Rattle.report_text.proofs.page.Page.path_segments.Goals as goal

pub loop-index-preserved : goal.loop-index-preserved
loop-index-preserved c =
    numbered_more_at path_segment_text 1 _ _ _ _ _ _ _ c.loop-index-test.true refl c.index-segments-index.is c.loop-index.invariant c.path_segment.ensures
