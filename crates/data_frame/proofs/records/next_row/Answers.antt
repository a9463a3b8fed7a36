use Rattle.std.proofs.Common.{◌∙◌, sym}
use Rattle.csv.specs.Records.{fields_of}
use Rattle.data_frame.proofs.Reading.{none_taken, not_text_taken, row_taken}
use Rattle.data_frame.proofs.records.next_row.Goals as goal

pub returns-in-Ok-true-clause-finds : goal.returns-in-Ok-true-clause-finds
returns-in-Ok-true-clause-finds c =
    let read = c.in-Ok-true.ensures in
    row_taken c.args.reader.now c.read_record.new.self c.in-Ok-true.field-0 (fields_of c.read_record.new.row) c.requires c.in-Ok-true.field-0-test
    (read.reads c.requires.trim c.requires.ready) (read.text c.requires.trim) (read.ready c.requires.trim) read.flexible

pub returns-in-Ok-false-clause-finds : goal.returns-in-Ok-false-clause-finds
returns-in-Ok-false-clause-finds c =
    none_taken c.args.reader.now c.read_record.new.self c.in-Ok-false.field-0 (fields_of c.read_record.new.row) c.requires c.in-Ok-false.field-0-test
    (c.in-Ok-false.ensures.reads c.requires.trim c.requires.ready)

pub returns-in-Utf8-clause-finds : goal.returns-in-Utf8-clause-finds
returns-in-Utf8-clause-finds c =
    not_text_taken c.args.reader.now c.read_record.new.self _ c.in-Utf8.pos c.in-Utf8.err c.requires (sym c.kind.ensures ∙ c.in-Utf8.is)
    (c.in-Err.ensures.why c.requires.trim c.requires.ready)
