use Rattle.std.proofs.Common.{◌≡◌, map, take}
use Rattle.std.specs.List.{flat_map}
use Rattle.frac_core.specs.Values.{exact}
use Rattle.tv_penalty.specs.Smoothings.{part_entries}
use Rattle.tv_penalty.specs.Views.{part_seen}
use Rattle.tv_penalty.proofs.assembly.entries_of.Given as goal

abbrev pub invariant-loop-part : goal.invariant-loop-part
invariant-loop-part l = map exact l.entries.items ≡ flat_map (part_entries l.intercept l.row) (map part_seen (take l.part-index l.parts))
