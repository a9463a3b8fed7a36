use Rattle.std.proofs.Common.{◌≡◌, ◌++◌, drop}
use Rattle.cert_text.specs.Chains.{values_at}
use Rattle.cert_text.proofs.place.values.Given as goal

abbrev pub invariant-loop-place : goal.invariant-loop-place
invariant-loop-place l = values_at l.places ≡ l.found ++ values_at (drop l.place-index l.places)
