use Rattle.std.proofs.Common.{◌≡◌, map, take}
use Rattle.csv.specs.Records.{fields_of}
use Rattle.data_frame.specs.Cells.{kept}
use Rattle.data_frame.proofs.column.read_texts.Given as goal

abbrev pub invariant-loop-i : goal.invariant-loop-i
invariant-loop-i l = l.texts.items ≡ map kept (take l.i (fields_of l.cells))
