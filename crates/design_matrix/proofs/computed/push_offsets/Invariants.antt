use Rattle.std.proofs.Common.{◌≡◌, ◌++◌, map, take}
use Rattle.design_matrix.proofs.computed.push_offsets.Given as goal

abbrev pub invariant-loop-offset : goal.invariant-loop-offset
invariant-loop-offset l =
    map (λ a. a.now) l.ariths.items ≡ map (λ a. a.now) l.fn.ariths.items ++ take l.offset-index l.offsets
