use Rattle.std.proofs.Common.{◌≡◌, ◌++◌, ◌≤◌, drop, length}
use Rattle.cert_text.specs.Chains.{places}
use Rattle.cert_text.proofs.place.places.Given as goal

abbrev pub invariant-loop-side : goal.invariant-loop-side
invariant-loop-side l =
    (places l.sides l.values ≡ l.found.items ++ places (drop l.side-index l.sides) (drop l.used l.values))
    × (l.used ≤ length l.values)
