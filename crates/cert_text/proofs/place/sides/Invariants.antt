use Rattle.std.proofs.Common.{◌≡◌, map, take}
use Rattle.cert_text.specs.Chains.{side_at}
use Rattle.cert_text.proofs.place.sides.Given as goal

abbrev pub invariant-loop-place : goal.invariant-loop-place
invariant-loop-place l = l.found.items ≡ map side_at (take l.place-index l.places-2)
