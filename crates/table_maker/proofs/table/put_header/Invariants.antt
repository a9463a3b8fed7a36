use Rattle.std.proofs.Common.{◌≡◌, ◌++◌}
use Rattle.std.specs.List.{flat_map, range_with_len}
use Rattle.table_maker.specs.Tables.{column_name}
use Rattle.table_maker.proofs.table.put_header.Given as goal

abbrev pub invariant-loop-column : goal.invariant-loop-column
invariant-loop-column l = l.table.items ≡ l.initial.table.items ++ flat_map column_name (range_with_len 1 l.column)
