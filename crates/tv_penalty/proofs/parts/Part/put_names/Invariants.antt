use Rattle.std.proofs.Common.{◌≡◌, ◌++◌, map, take}
use Rattle.tv_penalty.specs.Smoothings.{knot_name}
use Rattle.tv_penalty.proofs.parts.Part.put_names.Given as goal

abbrev pub invariant-loop-knot : goal.invariant-loop-knot
invariant-loop-knot l = l.names.items ≡ l.initial.names.items ++ map (knot_name l.self.smooth.now.name) (take l.knot-index l.knot-items)
