use Rattle.std.proofs.Common.{◌≡◌, map, take, string_bytes}
use Rattle.cert_text.specs.Trees.{sign_of}
use Rattle.cert_text.proofs.vertex.sides_to_json.Given as goal

abbrev pub invariant-loop-side : goal.invariant-loop-side
invariant-loop-side l = string_bytes l.signs ≡ map sign_of (take l.side-index l.sides)
