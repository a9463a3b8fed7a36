use Rattle.std.proofs.Common.{arith, inl, inr}
use Rattle.std.proofs.lemmas.Result.{err_from_is_err_and}
use Rattle.csv.specs.Records.{fields_of}
use Rattle.data_frame.specs.Reading.{left_of}
use Rattle.data_frame.proofs.Tables.{bad_header, bad_row, columns_short, few_rows, header_not_text, header_short, named_columns, no_records, stored_columns, table_is}
use Rattle.data_frame.proofs.frame.read_under.Goals as goal

pub returns-in-End-clause-fault : goal.returns-in-End-clause-fault
returns-in-End-clause-fault c = inr (no_records (left_of c.args.reader.now) (rw c.in-End.is at c.in_ok-next_row.ensures.finds))

pub returns-in-NotText-clause-fault : goal.returns-in-NotText-clause-fault
returns-in-NotText-clause-fault c =
    let finds = rw c.in-NotText.is at c.in_ok-next_row.ensures.finds in
    inr (bad_header (left_of c.args.reader.now) finds.0 finds.1 _ finds.2 (header_not_text finds.0 finds.3))

pub returns-in_err-names-clause-fault : goal.returns-in_err-names-clause-fault
returns-in_err-names-clause-fault c =
    let p = err_from_is_err_and c.from_residual-in_err-names.result c.from_residual-in_err-names.ensures.1 in
    let takes = rw c.in-Row.is at c.in_ok-next_row.ensures.finds in
    rw (p.1, p.2) (elim c.in_err-names.ensures [
      | inl memory ↦ inl memory
      | inr bad ↦ inr (bad_header (left_of c.args.reader.now) _ _ _ takes.next bad)
    ])

pub overflow_cast-len : goal.overflow_cast-len
overflow_cast-len c = omega (arith, header_short (fields_of c.next_row.new.row) c.in_ok-names.ensures.0, c.len.ensures)

pub returns-in-Err-clause-fault : goal.returns-in-Err-clause-fault
returns-in-Err-clause-fault c =
    let takes = rw c.in-Row.is at c.in_ok-next_row.ensures.finds in
    elim c.in-Err.ensures [
      | inl memory ↦ inl memory
      | inr bad ↦ inr (bad_row (left_of c.args.reader.now) _ _ _ takes.next c.in_ok-names.ensures.0 (rw c.len.ensures at bad))
    ]

pub read_columns-requires : goal.read_columns-requires
read_columns-requires c =
    let body = c.in-Ok.ensures in
    columns_short c.in-Ok.body.columns.items (left_of c.next_row.new.reader) _ _ body.1 (few_rows _ _ body.0)

pub invariant_of-result : goal.invariant_of-result
invariant_of-result c =
    named_columns c.in-Ok-read_columns.columns.items c.in-Ok.body.columns.items _ (fields_of c.next_row.new.row) c.in_ok-names.names _ _
    c.in-Ok-read_columns.ensures c.in-Ok.ensures.1 c.in_ok-names.ensures.1 c.len.ensures c.set_aside.ensures

pub returns-in-Ok-read_columns-clause-table : goal.returns-in-Ok-read_columns-clause-table
returns-in-Ok-read_columns-clause-table c =
    let takes = rw c.in-Row.is at c.in_ok-next_row.ensures.finds in
    let header = fields_of c.next_row.new.row in
    let body = c.in-Ok.ensures in
    table_is (left_of c.args.reader.now) header (left_of c.next_row.new.reader) c.in_ok-names.names c.in-Ok.body.records _ takes.next
    c.in_ok-names.ensures.0 (rw c.len.ensures at body.0) c.in_ok-names.ensures.1 body.2
    (stored_columns c.in-Ok-read_columns.columns.items c.in-Ok.body.columns.items (left_of c.next_row.new.reader) header _ _
    c.in-Ok-read_columns.ensures body.1 c.len.ensures c.set_aside.ensures)
