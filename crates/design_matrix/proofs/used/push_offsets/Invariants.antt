use Rattle.std.proofs.Common.{◌≡◌, ◌++◌, map, take}
use Rattle.std.specs.List.{flat_map}
use Rattle.design_matrix.proofs.used.push_offsets.Given as goal

abbrev pub invariant-loop-offset : goal.invariant-loop-offset
invariant-loop-offset l =
    map (λ n. n.now) l.names.items ≡ map (λ n. n.now) l.fn.names.items ++ flat_map (λ a. a.names) (take l.offset-index l.offsets)
