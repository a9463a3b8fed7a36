use Rattle.std.proofs.Common.{◌≡◌, ◌++◌, ◌+◌, ◌*◌}
use Rattle.std.specs.List.{flat_map, range_with_len}
use Rattle.table_maker.specs.Tables.{number_after, header_line, record_of}
use Rattle.table_maker.proofs.table.make.Given as goal

abbrev pub invariant-loop : goal.invariant-loop
invariant-loop l =
    (l.table.items ≡ header_line l.columns ++ flat_map (record_of l.number l.columns) (range_with_len 0 l.counter))
    × (l.generator.number ≡ number_after l.number (l.counter * (l.columns + 1)))
