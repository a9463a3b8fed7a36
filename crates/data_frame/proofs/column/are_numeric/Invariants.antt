use Rattle.std.proofs.Common.{◌≡◌, drop}
use Rattle.std.specs.List.{list_all}
use Rattle.csv.specs.Records.{fields_of}
use Rattle.data_frame.specs.Cells.{is_numeric}
use Rattle.data_frame.proofs.column.are_numeric.Given as goal

abbrev pub invariant-loop-i : goal.invariant-loop-i
invariant-loop-i l = list_all is_numeric (drop l.i (fields_of l.cells)) ≡ list_all is_numeric (drop l.from (fields_of l.cells))
