use Rattle.std.proofs.Common.{◌≡◌, ◌++◌, map}
use Rattle.csv.specs.Records.{fields_of}
use Rattle.std.specs.Vec.Iter.{into_iter_items}
use Rattle.data_frame.specs.Cells.{column_of}
use Rattle.data_frame.specs.Views.{exact_column, stored_column}
use Rattle.data_frame.proofs.frame.read_columns.Given as goal

-- the columns so far and those of the cells that are left are those of all cells
abbrev pub invariant-loop-cells : goal.invariant-loop-cells
invariant-loop-cells l =
    map (λ s. exact_column (stored_column s)) l.stored.items ++ map column_of (map fields_of (into_iter_items l.cells-iterator))
    ≡ map column_of (map fields_of l.fn.columns.items)
