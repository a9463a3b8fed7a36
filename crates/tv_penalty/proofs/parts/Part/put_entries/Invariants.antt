use Rattle.std.proofs.Common.{◌≡◌, ◌++◌, map, take}
use Rattle.frac_core.specs.Values.{exact}
use Rattle.tv_penalty.specs.Smoothings.{knot_entry}
use Rattle.tv_penalty.proofs.parts.Part.put_entries.Given as goal

abbrev pub invariant-loop-knot : goal.invariant-loop-knot
invariant-loop-knot l =
    map exact l.entries.items ≡ map exact l.initial.entries.items ++ map (knot_entry (exact l.number)) (take l.knot-index l.knot-items)
