use Rattle.report_text.proofs.page.Page.refusal_line.Goals as goal

pub returns-in-Dependent : goal.returns-in-Dependent
returns-in-Dependent c = rw c.in-Dependent.is (rw c.as_slice.ensures at c.line-in-Dependent.ensures)
