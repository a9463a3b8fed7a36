use Rattle.std.proofs.Common.{◌≡◌, ◌∷◌, take}
use Rattle.std.specs.List.{flat_map}
use Rattle.cert_text.specs.Paths.{escaped_byte}
use Rattle.cert_text.proofs.path.step_to_key.Given as goal

abbrev pub invariant-loop-byte : goal.invariant-loop-byte
invariant-loop-byte l = l.page.items ≡ 47 ∷ flat_map escaped_byte (take l.byte-index l.byte-items)
