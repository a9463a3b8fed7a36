-- The phases whose tokens do nothing but lead to the next one.
use Rattle.std.proofs.Common.{◌≡◌, ℕ, refl}
use Rattle.std.specs.Prelude.{Bool}
use Rattle.formula_grammar.specs.Words.{Span, Kind, SmoothPart}
use Rattle.formula_grammar.specs.Machine.{Phase, Response, Opening, Operand, FactorClose, BehindAtom, Exponent, BehindPower, SmoothClose, BehindItem, ArithInside, OffsetInside, Reader, phase_read, next_phase, read_in, Reads}

pub other_read : (p : Phase) (r : Reader) (n : ℕ) (k : Kind) (can : Bool) (r' : Reader)
    → (p ≡ Response → ⊥) → (p ≡ Opening → ⊥) → (p ≡ Operand → ⊥) → ((x : Span) → p ≡ FactorClose x → ⊥) → (p ≡ BehindAtom → ⊥)
    → ((c : ℕ) → p ≡ Exponent c → ⊥) → (p ≡ BehindPower → ⊥) → ((s : SmoothPart) → p ≡ SmoothClose s → ⊥) → (p ≡ BehindItem → ⊥) → (p ≡ ArithInside → ⊥) → (p ≡ OffsetInside → ⊥)
    → Reads (phase_read r (next_phase p k)) can r' → Reads (read_in p r n k) can r'
other_read Response r n k can r' a b c d e f g h i j m q = absurd (a refl)
other_read Opening r n k can r' a b c d e f g h i j m q = absurd (b refl)
other_read Operand r n k can r' a b c d e f g h i j m q = absurd (c refl)
other_read (FactorClose x) r n k can r' a b c d e f g h i j m q = absurd (d x refl)
other_read BehindAtom r n k can r' a b c d e f g h i j m q = absurd (e refl)
other_read (Exponent x) r n k can r' a b c d e f g h i j m q = absurd (f x refl)
other_read BehindPower r n k can r' a b c d e f g h i j m q = absurd (g refl)
other_read (SmoothClose s) r n k can r' a b c d e f g h i j m q = absurd (h s refl)
other_read BehindItem r n k can r' a b c d e f g h i j m q = absurd (i refl)
other_read ArithInside r n k can r' a b c d e f g h i j m q = absurd (j refl)
other_read OffsetInside r n k can r' a b c d e f g h i j m q = absurd (m refl)
other_read p r n k can r' a b c d e f g h i j m q = q
