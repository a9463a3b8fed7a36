use Rattle.std.proofs.Common.{◌≡◌, ◌++◌, drop, option_map}
use Rattle.cert_text.specs.Certificates.{sides_of}
use Rattle.cert_text.proofs.vertex.sides_of.Given as goal

abbrev pub invariant-loop-sign : goal.invariant-loop-sign
invariant-loop-sign l = sides_of l.signs ≡ option_map (λ more. l.found.items ++ more) (sides_of (drop l.sign-index l.signs))
