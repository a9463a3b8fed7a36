-- The bytes of a value and a line feed are that value.
use Rattle.std.proofs.Common.{◌≡◌, ℕ, List, [], ◌∷◌, ◌++◌, Some, Ok, false, refl, sym, ap, subst, ◌∙◌}
use Rattle.std.specs.Str.{IsUtf8}
use Rattle.std.proofs.lemmas.Str.{IsUtf8-append}
use Rattle.json.specs.Lex.{tokens}
use Rattle.json.specs.Print.{print}
use Rattle.json.specs.Tree.{HasNumbers, json_tokens}
use Rattle.json.proofs.Printed.Trees.{ArePrintable-json_tokens}
use Rattle.json.proofs.Printed.Utf8.{IsUtf8-are_ascii}
use Rattle.serde_json.specs.Data.{Data}
use Rattle.serde_json.specs.Read.{read}
use Rattle.serde_json.specs.Written.{outline, has_float, IsInOrder}
use Rattle.serde_json.proofs.Texts.{tokens_from_order}
use Rattle.cert_text.specs.Certificates.{json_of, or_not_json}
use Rattle.cert_text.specs.Reading.{Reading, on_read}
use Rattle.cert_text.proofs.Utf8Texts.{utf8_json}
use Rattle.cert_text.proofs.Feed.{read_feed}

pub line_back : (b after : List ℕ) (d : Data) → after ≡ b ++ 10 ∷ [] → IsUtf8 b → b ≡ print (tokens b) → IsInOrder b d → read b ≡ Some d
    → has_float d ≡ false → HasNumbers (outline d) → json_of after ≡ Some d
line_back b after d e u compact order back plain numbers =
    utf8_json after (subst IsUtf8 (sym e) (IsUtf8-append b (10 ∷ []) u (IsUtf8-are_ascii (10 ∷ []) refl)))
    ∙ ap read e
    ∙ read_feed b (json_tokens (outline d)) (compact ∙ ap print (tokens_from_order b d order plain)) (ArePrintable-json_tokens (outline d) numbers)
    ∙ back

pub certified : {A : Type 0} (bytes : List ℕ) (d : Data) (f : Data → Reading A) (r : A) → json_of bytes ≡ Some d → f d ≡ Ok r → on_read (or_not_json (json_of bytes)) f ≡ Ok r
certified bytes d f r e h = ap (λ o. on_read (or_not_json o) f) e ∙ h
