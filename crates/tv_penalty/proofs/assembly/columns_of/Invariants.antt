use Rattle.std.proofs.Common.{◌≡◌, map, take}
use Rattle.std.specs.List.{flat_map}
use Rattle.frac_core.specs.Values.{exact}
use Rattle.tv_penalty.specs.Smoothings.{part_entries}
use Rattle.tv_penalty.specs.Views.{part_seen}
use Rattle.tv_penalty.proofs.assembly.columns_of.Given as goal

abbrev pub invariant-loop-row : goal.invariant-loop-row
invariant-loop-row l =
    map (map exact) l.columns.items ≡ map (λ row. flat_map (part_entries l.intercept row) (map part_seen l.parts)) (take l.row-index l.rows)
