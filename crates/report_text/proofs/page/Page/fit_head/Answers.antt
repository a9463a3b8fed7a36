use Rattle.std.proofs.Common.{◌++◌, codes, ap, ◌∙◌}
use Rattle.report_text.proofs.Appends.{append_four}
use Rattle.report_text.specs.ReportText.{fit_head, numbered, column_line}
use Rattle.report_text.proofs.page.Page.fit_head.Goals as goal

pub returns : goal.returns
unfolding fit_head
returns c =
    append_four _ _ _ _ _ (codes "quantreg 1\n") _ _ _ c.put.ensures c.records_line.ensures
    (c.column_lines.ensures ∙ ap (λ names. c.records_line.new.self ++ numbered column_line 1 names) c.as_slice.ensures) c.fit_size.ensures
