use Rattle.std.proofs.Common.{codes}
use Rattle.report_text.proofs.Appends.{append_spaced}
use Rattle.report_text.specs.ReportText.{interval_line}
use Rattle.report_text.proofs.page.Page.interval_line.Goals as goal

pub returns : goal.returns
unfolding interval_line
returns c = append_spaced _ _ _ _ _ (codes "interval ") _ _ _ _ c.put.ensures c.put_count.ensures c.put_next.ensures c.put_ends.ensures
