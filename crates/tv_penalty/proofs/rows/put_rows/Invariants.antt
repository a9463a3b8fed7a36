use Rattle.std.proofs.Common.{◌≡◌, ◌++◌, map, take}
use Rattle.design_matrix.specs.Lists.{each}
use Rattle.tv_penalty.specs.Smoothings.{bend_row, exact_penalty}
use Rattle.tv_penalty.specs.Views.{bend_seen, part_seen}
use Rattle.tv_penalty.proofs.rows.put_rows.Given as goal

abbrev pub invariant-loop-number : goal.invariant-loop-number
invariant-loop-number l =
    map exact_penalty l.rows.items ≡ map exact_penalty l.initial.rows.items
    ++ each (bend_row l.columns.intercept l.columns.all l.columns.before (part_seen l.part)) 0 (map bend_seen (take l.number l.bend-items))
