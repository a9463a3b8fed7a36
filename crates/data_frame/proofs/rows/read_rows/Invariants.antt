use Rattle.std.proofs.Common.{◌≡◌, ◌+◌, ◌-◌, ◌^◌, ◌<◌, ◌≤◌, drop, length, map, take, vec_len}
use Rattle.csv.specs.Records.{fields_of}
use Rattle.data_frame.specs.Columns.{columns_from}
use Rattle.data_frame.specs.Faults.{rows_fault}
use Rattle.data_frame.specs.Reading.{IsReading, left_of, unread}
use Rattle.data_frame.proofs.rows.read_rows.Given as goal

-- the columns have the cells of the records so far, which have no fault
abbrev pub invariant-loop-records : goal.invariant-loop-records
invariant-loop-records l =
    let all = left_of l.fn.reader in
    record {
      reading : IsReading l.reader;
      small : length (unread l.reader) + 1 < 2 ^ 32;
      left : left_of l.reader ≡ drop l.records all;
      columns : map fields_of l.columns.items ≡ columns_from (take l.records all) l.first (l.wanted - l.first);
      many : vec_len l.columns ≡ l.wanted - l.first;
      within : l.records ≤ length all;
      early : l.records ≤ 16384;
      faults : rows_fault l.wanted 1 all ≡ rows_fault l.wanted (l.records + 1) (left_of l.reader);
    }
