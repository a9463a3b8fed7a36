use Rattle.report_text.proofs.page.Page.halt_line.Goals as goal

pub returns-in-OutOfMemory : goal.returns-in-OutOfMemory
returns-in-OutOfMemory c = rw c.in-OutOfMemory.is c.put.ensures

pub returns-in-PivotLimit : goal.returns-in-PivotLimit
returns-in-PivotLimit c = rw c.in-PivotLimit.is c.line.ensures

pub returns-in-Overflow : goal.returns-in-Overflow
returns-in-Overflow c = rw c.in-Overflow.is c.line-in-Overflow.ensures

pub returns-in-Rejected : goal.returns-in-Rejected
returns-in-Rejected c = rw c.in-Rejected.is c.rejection_line.ensures
