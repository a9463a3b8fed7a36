use Rattle.std.proofs.Common.{◌≡◌, ◌++◌, map, take}
use Rattle.design_matrix.proofs.used.push_smooths.Given as goal

abbrev pub invariant-loop-smooth : goal.invariant-loop-smooth
invariant-loop-smooth l =
    map (λ n. n.now) l.names.items ≡ map (λ n. n.now) l.fn.names.items ++ map (λ s. s.name) (take l.smooth-index l.smooths)
