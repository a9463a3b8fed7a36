use Rattle.std.proofs.Common.{◌≡◌, ◌++◌, ◌∷◌, map, take, string_bytes}
use Rattle.std.specs.List.{flat_map}
use Rattle.design_matrix.specs.Views.{part_seen}
use Rattle.design_matrix.proofs.parts.name_of.Given as goal

abbrev pub invariant-loop-part : goal.invariant-loop-part
invariant-loop-part l = string_bytes l.name ≡ string_bytes l.initial.name ++ flat_map (λ q. 58 ∷ q.label) (map part_seen (take l.part-index l.rest))
