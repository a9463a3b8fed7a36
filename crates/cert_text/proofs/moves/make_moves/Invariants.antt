use Rattle.std.proofs.Common.{◌≡◌, drop}
use Rattle.cert_text.specs.Chains.{moved}
use Rattle.cert_text.proofs.moves.make_moves.Given as goal

abbrev pub invariant-loop-step : goal.invariant-loop-step
invariant-loop-step l = moved 0 l.fn.places.items l.moves ≡ moved l.least l.places.items (drop l.step-index l.moves)
