use Rattle.std.proofs.Common.{arith, refl}
use Rattle.report_text.proofs.Numbered.{numbered_zip_more, numbered_zip_all}
use Rattle.report_text.specs.ReportText.{segment_text}
use Rattle.report_text.proofs.page.Page.segments.Goals as goal

pub loop-index-preserved : goal.loop-index-preserved
loop-index-preserved c =
    numbered_zip_more (segment_text c.args.data_rows) 1 c.args.segments.now c.args.scores.now c.loop-index.index _ _ _ _ _ _ c.loop-index-test.true (omega arith) refl c.index-segments-index.is
    (cc) c.loop-index.invariant c.segment.ensures

pub returns : goal.returns
returns c = numbered_zip_all (segment_text c.args.data_rows) 1 c.args.segments.now c.args.scores.now c.loop-index.index _ _ c.requires (omega arith) c.loop-index.invariant
