-- A number text without a sign is read as its magnitude.
use Rattle.std.proofs.Common.{◌≡◌, ◌≤◌, ◌/◌, ◌∷◌, [], ℕ, Bool, true, false, List, Option, Some, None, Result, Ok, Err}
use Rattle.std.proofs.Common.{IfSome, option_and_then, option_map, nat_le, pos, refl, sym, ap, subst, ◌∙◌, arith, leb-true, unsigned_abs, if◌then◌else◌, ◌&&◌}
use Rattle.std.proofs.Math.IntN.{ℤ_set}
use Rattle.std.proofs.Math.Nat.{div-mul_cancel}
use Rattle.std.specs.Str.Parse.{starts_with_minus}
use Rattle.std.proofs.lemmas.Bool.Decides.{nat_tests}
use mathlib.Core.HLevel.{is_prop→PathP}
use Rattle.rational_laws.specs.Fraction.{Fraction, rational}
use Rattle.rational_laws.specs.Rational.{ℚ, quotient, whole}
use Rattle.rational_laws.proofs.Quotients.{quotient-one}
use Rattle.frac_core.specs.Gcd.{gcd, gcd-is}
use Rattle.frac_core.specs.NumberText.{in_range, number_of, with_sign, written, written_body}
use Rattle.frac_core.specs.declared.frac128.Frac128.{Frac128}
use Rattle.frac_core.specs.declared.number_reader.NumberFault.{NumberFault}
use Rattle.frac_core.specs.declared.number_reader.NumberFault.TheVariants.{TooWide}
use Rattle.frac_core.proofs.Products.{reduced_is}
use Rattle.frac_core.proofs.ReaderSteps.{IsUnsigned, reduces, unsigned_body}
use Rattle.frac_core.specs.Values.{exact}
use Rattle.frac_core.proofs.Values.{same_number}
use Rattle.formula_grammar.specs.Magnitudes.{Magnitude, magnitude, magnitude_if, magnitude_of, range}
use Rattle.formula_grammar.specs.Numerals.{one_fraction, zero_fraction}
use Rattle.formula_grammar.specs.Numbers.{is_signed}
use Rattle.formula_grammar.proofs.NumberTexts.{unsigned}

-- what is read of a text, and its magnitude
abbrev ReadsAs : Result ℚ NumberFault → Option Magnitude → Type 0
ReadsAs (Ok v) o = (m : Magnitude) × (o ≡ Some m) × (exact m.fraction ≡ v)
ReadsAs (Err e) o = o ≡ None

lowest_exact : (n d : ℕ) → 1 ≤ d → n ≤ range → d ≤ range → quotient (pos (n / gcd n d)) (d / gcd n d) ≡ quotient (pos n) d
lowest_exact n d some num den =
    let fits = reduces range (pos n) d num den in
    (reduced_is range (pos n) (pos (n / gcd n d)) d (gcd n d) (d / gcd n d) some refl (ap pos (div-mul_cancel (gcd n d) (gcd-is n d).0)) refl fits.num fits.den).exact

tested : (x : Fraction) → IsUnsigned x → (a b c : Bool) (some : nat_le 1 x.den ≡ a) (num : nat_le (unsigned_abs x.num) range ≡ b) (den : nat_le x.den range ≡ c)
    → ReadsAs (if b && c then Ok (rational x) else Err TooWide) (magnitude_if (unsigned_abs x.num) x.den a b c some num den)
tested x u true true true some num den =
    let lowest = lowest_exact (unsigned_abs x.num) x.den (leb-true 1 x.den some) (leb-true (unsigned_abs x.num) range num) (leb-true x.den range den) in
    (_, refl, lowest ∙ ap (λ z. quotient z x.den) (sym u.num))
tested x u false b c some num den = let positive = u.den in absurd (grind (arith, nat_tests))
tested x u true false c some num den = refl
tested x u true true false some num den = refl

no_minus : (text : List ℕ) → is_signed text ≡ false → starts_with_minus text ≡ false
no_minus [] h = refl
no_minus (b ∷ bs) h = grind (arith, nat_tests)

text_reads : (text : List ℕ) → is_signed text ≡ false → ReadsAs (number_of range text) (magnitude_of text)
unfolding number_of written magnitude magnitude_of
text_reads text h = rw (unsigned text h, no_minus text h) (go (written_body text) (unsigned_body text))
  where
    go : (o : Option Fraction) → IfSome o IsUnsigned → ReadsAs (in_range range (option_map (with_sign false) o)) (option_and_then (λ x. magnitude (unsigned_abs x.num) x.den) o)
    go None u = refl
    go (Some x) u = tested x u (nat_le 1 x.den) (nat_le (unsigned_abs x.num) range) (nat_le x.den range) refl refl refl

same_magnitude : (m : Magnitude) (r : Frac128) (u : r.num ≡ pos (unsigned_abs r.num)) → m.fraction ≡ r → m ≡ (let n : Magnitude = record { fraction = r; unsigned = u } in n)
same_magnitude m r u e = λ i. record { fraction = e i; unsigned = is_prop→PathP (λ i. (e i).num ≡ pos (unsigned_abs (e i).num)) (λ i. ℤ_set (e i).num (pos (unsigned_abs (e i).num))) m.unsigned u i }

read_as : (text : List ℕ) (q : Result ℚ NumberFault) → is_signed text ≡ false → number_of range text ≡ q → ReadsAs q (magnitude_of text)
read_as text q h e = subst (λ q. ReadsAs q (magnitude_of text)) e (text_reads text h)

pub read_unsigned : (text : List ℕ) (r : Frac128) → is_signed text ≡ false → number_of range text ≡ Ok (exact r) → r.num ≡ pos (unsigned_abs r.num)
read_unsigned text r h e =
    let m = read_as text (Ok (exact r)) h e in
    subst (λ (x : Frac128). x.num ≡ pos (unsigned_abs x.num)) (same_number m.0.fraction r m.2) m.0.unsigned

pub read_magnitude : (text : List ℕ) (r : Frac128) (u : r.num ≡ pos (unsigned_abs r.num)) → is_signed text ≡ false → number_of range text ≡ Ok (exact r)
    → Some (let m : Magnitude = record { fraction = r; unsigned = u } in m) ≡ magnitude_of text
read_magnitude text r u h e =
    let m = read_as text (Ok (exact r)) h e in
    sym (m.1 ∙ ap (λ (x : Magnitude). Some x) (same_magnitude m.0 r u (same_number m.0.fraction r m.2)))

pub read_none : (text : List ℕ) (f : NumberFault) → is_signed text ≡ false → number_of range text ≡ Err f → None ≡ magnitude_of text
read_none text f h e = sym (read_as text (Err f) h e)

-- ---- 0 and 1

zero_exact : exact zero_fraction ≡ whole (pos 0)
unfolding zero_fraction
zero_exact = lowest_exact 0 1 (omega arith) (omega arith) (omega arith) ∙ quotient-one (pos 0)

one_exact : exact one_fraction ≡ whole (pos 1)
unfolding one_fraction
one_exact = lowest_exact 1 1 (omega arith) (omega arith) (omega arith) ∙ quotient-one (pos 1)

pub zero_is : (x : Frac128) → exact x ≡ whole (pos 0) → x ≡ zero_fraction
zero_is x e = same_number x zero_fraction (e ∙ sym zero_exact)

pub one_is : (x : Frac128) → exact x ≡ whole (pos 1) → x ≡ one_fraction
one_is x e = same_number x one_fraction (e ∙ sym one_exact)
