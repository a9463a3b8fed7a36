use Rattle.std.proofs.Common.{◌≡◌, ◌++◌, drop, map, take, vec_len}
use Rattle.csv.specs.Records.{fields_of}
use Rattle.data_frame.specs.Columns.{with_row}
use Rattle.data_frame.proofs.rows.add_row.Given as goal

abbrev pub invariant-loop-i : goal.invariant-loop-i
invariant-loop-i l =
    let before = map fields_of l.fn.columns.items in
    record {
      added : map fields_of l.columns.items ≡ with_row (take l.i before) l.first (fields_of l.row) ++ drop l.i before;
      many : vec_len l.columns ≡ vec_len l.fn.columns;
    }
