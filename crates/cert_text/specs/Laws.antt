-- Law. What is written is read back as the same certificate, and what is read is within the limits.
use Rattle.std.specs.Prelude.{◌≡◌, ℕ, List, Ok}
use Rattle.cert_text.specs.Certificates.{cert_of, cert_of_data}
use Rattle.cert_text.specs.Contents.{content}
use Rattle.cert_text.specs.Limits.{IsWithinLimits}
use Rattle.cert_text.specs.Numbers.{AreLowest}
use Rattle.cert_text.specs.Trees.{cert_tree}
use Rattle.cert_text.specs.declared.cert.Cert.{Cert}

-- The tree of a certificate within the limits says what the certificate says. That its numbers are in lowest terms is known
-- of every certificate of the program.
abbrev pub TreeReadsBack : Type 0
TreeReadsBack = (c : Cert) → AreLowest c → IsWithinLimits c → cert_of_data (cert_tree c) ≡ Ok (content c)

-- a certificate that bytes are is within the limits
abbrev pub ReadIsWithin : Type 0
ReadIsWithin = (bytes : List ℕ) (c : Cert) → cert_of bytes ≡ Ok (content c) → IsWithinLimits c

-- certificates that say the same are the same
abbrev pub SameContent : Type 0
SameContent = (a b : Cert) → content a ≡ content b → a ≡ b
