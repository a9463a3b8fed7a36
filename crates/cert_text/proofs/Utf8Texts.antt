-- Bytes that are no UTF-8 are no JSON.
use Rattle.std.proofs.Common.{◌≡◌, ℕ, Bool, true, false, List, Option, None, if◌then◌else◌, refl}
use Rattle.std.specs.Str.{IsUtf8, is_utf8}
use Rattle.std.proofs.lemmas.Str.{IsUtf8-from_is_utf8, is_utf8-from_IsUtf8}
use Rattle.serde_json.specs.Data.{Data}
use Rattle.serde_json.specs.Read.{read}
use Rattle.cert_text.specs.Certificates.{json_of}

pick : (b : Bool) (o : Option Data) → (b ≡ true → ⊥) → (if b then o else None) ≡ None
pick true o other = absurd (other refl)
pick false o other = refl

keep : (b : Bool) (o : Option Data) → b ≡ true → (if b then o else None) ≡ o
keep true o is = refl
keep false o is = absurd (cc is)

pub not_utf8 : (bytes : List ℕ) → ¬ IsUtf8 bytes → json_of bytes ≡ None
unfolding json_of
not_utf8 bytes other = pick (is_utf8 bytes) (read bytes) (λ t. other (IsUtf8-from_is_utf8 bytes t))

pub utf8_json : (bytes : List ℕ) → IsUtf8 bytes → json_of bytes ≡ read bytes
unfolding json_of
utf8_json bytes h = keep (is_utf8 bytes) (read bytes) (is_utf8-from_IsUtf8 bytes h)
