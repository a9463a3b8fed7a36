use Rattle.std.proofs.Common.{◌≡◌, map, take}
use Rattle.std.specs.List.{flat_map}
use Rattle.tv_penalty.specs.Smoothings.{part_names}
use Rattle.tv_penalty.specs.Views.{part_seen}
use Rattle.tv_penalty.proofs.assembly.names_of.Given as goal

abbrev pub invariant-loop-part : goal.invariant-loop-part
invariant-loop-part l = l.names.items ≡ flat_map (part_names l.intercept) (map part_seen (take l.part-index l.parts))
