use Rattle.std.proofs.Common.{◌∙◌, arith, inl, inr, sym}
use Rattle.std.proofs.lemmas.Bool.{cases_Bool}
use Rattle.std.proofs.lemmas.List.{take_all}
use Rattle.csv.specs.Records.{fields_of}
use Rattle.data_frame.proofs.Numeric.{not_numeric_at, number_column, wide_column, word_behind, word_fits_not}
use Rattle.data_frame.proofs.column.read_numbers.Goals as goal

pub returns-in-Err-NotANumber : goal.returns-in-Err-NotANumber
returns-in-Err-NotANumber c =
    let cells = fields_of c.args.cells.now in
    not_numeric_at cells c.loop-i.i (omega arith) (word_fits_not _ (rw (← c.text_at.ensures, ← c.in-Err-NotANumber.field-0-is) c.in-Err-NotANumber.ensures))

pub returns-in-Err-TooWide : goal.returns-in-Err-TooWide
returns-in-Err-TooWide c =
    let cells = fields_of c.args.cells.now in
    let wide = rw (c.text_at.ensures, c.in-Err-TooWide.field-0-is) at c.in-Err-TooWide.ensures in
    elim (cases_Bool c.are_numeric.result) [
      | inl all ↦ rw (c.then_some.ensures, all) (wide_column cells c.loop-i.i c.loop-i.invariant.holds (omega arith) wide (sym c.are_numeric.ensures ∙ all))
      | inr not_all ↦ rw (c.then_some.ensures, not_all) (word_behind cells c.loop-i.i c.loop-i.invariant.holds (omega arith) wide (sym c.are_numeric.ensures ∙ not_all))
    ]

pub returns : goal.returns
returns c =
    let cells = fields_of c.args.cells.now in
    let whole = take_all c.loop-i.i cells (omega arith) in
    number_column cells _ (rw whole at c.loop-i.invariant.holds) (rw whole at c.loop-i.invariant.values)
