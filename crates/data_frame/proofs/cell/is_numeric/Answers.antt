use Rattle.std.proofs.Common.{sym}
use Rattle.data_frame.proofs.Numeric.{number_fits, wide_fits, word_fits_not}
use Rattle.data_frame.proofs.cell.is_numeric.Goals as goal

pub returns-in-Ok : goal.returns-in-Ok
returns-in-Ok c = sym (number_fits c.args.cell.now _ c.in-Ok.ensures)

pub returns-in-Err-TooWide : goal.returns-in-Err-TooWide
returns-in-Err-TooWide c = sym (wide_fits c.args.cell.now (rw c.in-Err-TooWide.field-0-is at c.in-Err-TooWide.ensures))

pub returns-in-Err-NotANumber : goal.returns-in-Err-NotANumber
returns-in-Err-NotANumber c = sym (word_fits_not c.args.cell.now (rw c.in-Err-NotANumber.field-0-is at c.in-Err-NotANumber.ensures))
