use Rattle.report_text.specs.FaultText.{design_line}
use Rattle.report_text.proofs.page.Page.design_line.Goals as goal

pub returns-in-NumberTooWide : goal.returns-in-NumberTooWide
unfolding design_line
returns-in-NumberTooWide c = rw c.in-NumberTooWide.is c.line-in-NumberTooWide.ensures

pub returns-in-NegativeWeight : goal.returns-in-NegativeWeight
unfolding design_line
returns-in-NegativeWeight c = rw c.in-NegativeWeight.is c.line-in-NegativeWeight.ensures

pub returns-in-NoRows : goal.returns-in-NoRows
unfolding design_line
returns-in-NoRows c = rw c.in-NoRows.is c.line-in-NoRows.ensures

pub returns-in-OneLevel : goal.returns-in-OneLevel
unfolding design_line
returns-in-OneLevel c = rw c.in-OneLevel.is c.line-in-OneLevel.ensures

pub returns-in-NoColumns : goal.returns-in-NoColumns
unfolding design_line
returns-in-NoColumns c = rw c.in-NoColumns.is c.line-in-NoColumns.ensures

pub returns-in-TooManyColumns : goal.returns-in-TooManyColumns
unfolding design_line
returns-in-TooManyColumns c = rw c.in-TooManyColumns.is c.line-in-TooManyColumns.ensures

pub returns-in-Overflow : goal.returns-in-Overflow
unfolding design_line
returns-in-Overflow c = rw c.in-Overflow.is c.line-in-Overflow.ensures

pub returns-in-UnknownLevel : goal.returns-in-UnknownLevel
unfolding design_line
returns-in-UnknownLevel c = rw c.in-UnknownLevel.is c.line-in-UnknownLevel.ensures

pub returns-in-OutOfMemory : goal.returns-in-OutOfMemory
unfolding design_line
returns-in-OutOfMemory c = rw c.in-OutOfMemory.is c.put.ensures
