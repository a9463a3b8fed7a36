use Rattle.std.proofs.Common.{◌≡◌, ◌++◌, ℕ, ◌+◌}
use Rattle.std.specs.List.{flat_map, range_with_len}
use Rattle.table_maker.specs.Tables.{number_after, next_cell}
use Rattle.table_maker.proofs.table.put_record.Given as goal

abbrev pub invariant-loop : goal.invariant-loop
invariant-loop l =
    (number k : ℕ) → l.initial.generator.number ≡ number_after number k
    → (l.table.items ≡ l.initial.table.items ++ flat_map (next_cell number) (range_with_len (k + 1) l.counter))
    × (l.generator.number ≡ number_after number (k + l.counter))
