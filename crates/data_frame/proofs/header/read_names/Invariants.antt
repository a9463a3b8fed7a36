use Rattle.std.proofs.Common.{◌≡◌, ◌++◌, [], map, drop, string_bytes}
use Rattle.csv.specs.Records.{fields_of}
use Rattle.data_frame.specs.Faults.{names_fault, names_of, set_aside}
use Rattle.data_frame.proofs.header.read_names.Given as goal

abbrev pub invariant-loop-column : goal.invariant-loop-column
invariant-loop-column l =
    let header = fields_of l.fn.header in
    record {
      names : l.texts ++ drop l.column header ≡ names_of header;
      keys : map string_bytes l.places.keys ≡ l.texts;
      faults : names_fault (set_aside header) [] (names_of header) ≡ names_fault l.column l.texts (drop l.column header);
    }
