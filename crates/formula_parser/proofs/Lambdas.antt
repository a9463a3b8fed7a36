-- No lambda of a formula is negative: the number of a token has no sign.
use Rattle.std.proofs.Common.{◌≡◌, ◌<◌, [], ◌∷◌, ℕ, zero, suc, List, Option, Some, None, pos, map, length, get_or, refl, sym, ap, subst, arith, unsigned_abs}
use Rattle.rational_laws.specs.Fraction.{rational}
use Rattle.rational_laws.specs.Rational.{◌≤ℚ◌, inverse, whole}
use Rattle.rational_laws.specs.Solver.{number, ◌⊠◌, v0}
use Rattle.rational_laws.proofs.OrderLaws.{inverse_not_negative}
use Rattle.rational_laws.proofs.RationalLaws.{≤ℚ_mul, ring_ℚ}
use Rattle.rational_laws.proofs.Signs.{whole_not_negative}
use Rattle.formula_grammar.specs.Codes.{smooths_of}
use Rattle.formula_grammar.specs.declared.magnitude.Magnitude.{Magnitude}
use Rattle.formula_grammar.specs.Numerals.{value_of, value_or_zero}
use Rattle.formula_parser.specs.Words.{Zero, Unity, Longer, Numeral, Digits, Written, SmoothPart}
use Rattle.formula_parser.specs.Scope.{Text}
use Rattle.formula_parser.specs.Laws.{LambdasAreNotNegative}
use Rattle.formula_parser.specs.Parsed.{exact, meant_smooth, told_smooth, Smooth}

not_negative : (n d : ℕ) → whole (pos 0) ≤ℚ rational (record { num = pos n; den = d })
not_negative n d =
    let below = inverse_not_negative (whole (pos d)) (whole_not_negative d) in
    subst (λ z. z ≤ℚ rational (record { num = pos n; den = d })) (ring_ℚ (whole (pos n) ∷ []) (v0 ⊠ number (pos 0)) (number (pos 0)) refl)
    (≤ℚ_mul (whole (pos 0)) (inverse (whole (pos d))) (whole (pos n)) (whole_not_negative n) below)

held_not_negative : (o : Option Magnitude) → whole (pos 0) ≤ℚ value_or_zero o
held_not_negative None = whole_not_negative 0
held_not_negative (Some m) =
    subst (λ z. whole (pos 0) ≤ℚ rational (record { num = z; den = m.fraction.den })) (sym m.unsigned) (not_negative (unsigned_abs m.fraction.num) m.fraction.den)

number_not_negative : (x : Numeral) → whole (pos 0) ≤ℚ value_of x
number_not_negative (Digits Zero) = whole_not_negative 0
number_not_negative (Digits Unity) = whole_not_negative 1
number_not_negative (Digits (Longer o)) = held_not_negative o
number_not_negative (Written o) = held_not_negative o

smooths_not_negative : (text : Text) (names : List Text) (ss : List Smooth) (ps : List SmoothPart) → map told_smooth ss ≡ map (meant_smooth text names) ps
    → (k : ℕ) (d : Smooth) → k < length ss → whole (pos 0) ≤ℚ exact (get_or ss k d).lambda
smooths_not_negative text names [] ps e k d l = absurd (omega (arith, l))
smooths_not_negative text names (s ∷ ss) [] e k d l = absurd (cc e)
smooths_not_negative text names (s ∷ ss) (p ∷ ps) e zero d l =
    let same : told_smooth s ≡ meant_smooth text names p = cc e in
    subst (λ z. whole (pos 0) ≤ℚ z) (sym (ap (λ z. z.lambda) same)) (number_not_negative p.lambda)
smooths_not_negative text names (s ∷ ss) (p ∷ ps) e (suc k) d l = smooths_not_negative text names ss ps (cc e) k d (omega (arith, l))

pub lambdas_not_negative : LambdasAreNotNegative
lambdas_not_negative text names f is = smooths_not_negative text names f.smooths (smooths_of is.formula.items) is.smooths
