use Rattle.std.proofs.Common.{codes}
use Rattle.report_text.proofs.Appends.{append_four}
use Rattle.report_text.specs.ReportText.{checked_text, size_lines}
use Rattle.report_text.proofs.page.Page.checked.Goals as goal

pub returns : goal.returns
unfolding checked_text
returns c =
    append_four _ _ _ _ _ (codes "quantreg check 1\n") (size_lines c.args.cert.now) (codes "accepted\n") (codes "end\n")
    c.put.ensures c.size_lines.ensures c.put-2.ensures c.put-3.ensures
