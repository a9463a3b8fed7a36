use Rattle.std.proofs.Common.{◌≡◌, map, option_map, take, true}
use Rattle.std.specs.List.{list_all}
use Rattle.csv.specs.Records.{fields_of}
use Rattle.frac_core.specs.Values.{exact}
use Rattle.data_frame.specs.Cells.{number_in, number_or_none}
use Rattle.data_frame.proofs.Numeric.{holds_number}
use Rattle.data_frame.proofs.column.read_numbers.Given as goal

-- each cell so far is a number or missing, and these are the numbers
abbrev pub invariant-loop-i : goal.invariant-loop-i
invariant-loop-i l =
    let cells = take l.i (fields_of l.cells) in
    record {
      holds : list_all holds_number cells ≡ true;
      values : map (option_map exact) l.values.items ≡ map (λ cell. number_or_none (number_in cell)) cells;
    }
