-- Whole numbers of a few digits.
use Rattle.std.proofs.Common.{◌≡◌, ◌∙◌, ℕ, ◌<◌, ◌≤◌, ◌^◌, ◌&&◌, Bool, true, false, List, [], ◌∷◌, Option, Some, None, Result, Ok, Err, MatchOption, IfNone, OnSome, inl, inr, length, nat_le, nat_lt, refl, sym, ap, arith}
use Rattle.std.specs.Char.{is_ascii_digit}
use Rattle.std.specs.List.{list_all}
use Rattle.std.specs.Result.{OkIff, result_ok}
use Rattle.std.specs.Str.{all_ascii_digits}
use Rattle.std.specs.Str.Parse.{ParsesUnsigned, digits_value}
use Rattle.std.proofs.Math.Dec.{lit<}
use Rattle.std.proofs.lemmas.Bool.{cases_lt, le-leb, lt-ltb}
use Rattle.std.proofs.lemmas.Bool.Decides.{nat_tests}
use Rattle.std.proofs.lemmas.Str.Parse.{IsNumeralModel, digits_value_short, numerals_by_value, parse_digits, tells_all_ascii_digits}
use mathlib.Core.Bool.{and-false}
use Rattle.rq_words.specs.Words.{has_digits}

own : IsNumeralModel (λ ds. all_ascii_digits ds ≡ true) (digits_value 10)
own = numerals_by_value (λ ds. all_ascii_digits ds ≡ true) tells_all_ascii_digits

same_digits : (text : List ℕ) → list_all is_ascii_digit text ≡ all_ascii_digits text
same_digits [] = refl
same_digits (c ∷ cs) = ap (λ (t : Bool). is_ascii_digit c && t) (same_digits cs)

pub too_long : (places : ℕ) (text : List ℕ) → places < length text → has_digits places text ≡ false
too_long places text h = let long : nat_le (length text) places ≡ false = grind (arith, nat_tests) in rw long refl

pub other_byte : (places : ℕ) (text : List ℕ) → list_all is_ascii_digit text ≡ false → has_digits places text ≡ false
other_byte places text h =
    let digits : all_ascii_digits text ≡ false = sym (same_digits text) ∙ h in
    rw (digits, and-false (nat_lt 0 (length text)), and-false (nat_le (length text) places)) refl

-- what `parse` makes of at most ten digits
pub parsed : {E : Type 0} (places : ℕ) (text : List ℕ) (r : Result ℕ E) → ParsesUnsigned 64 10 text r → list_all is_ascii_digit text ≡ true
    → length text ≤ places → places ≤ 10
    → MatchOption (result_ok r) (has_digits places text ≡ false) (λ n. (has_digits places text ≡ true) × (n ≡ digits_value 10 text))
parsed {E} places text r h all few ten = by r (parse_digits own 64 text r h digits)
  where
    digits : all_ascii_digits text ≡ true
    digits = sym (same_digits text) ∙ all

    short : nat_le (length text) places ≡ true
    short = le-leb (length text) places few

    small : digits_value 10 text < 2 ^ 64
    small = let few : digits_value 10 text < 10 ^ 10 = digits_value_short own text 10 digits (omega arith) in
        let most : 10 ^ 10 < 2 ^ 64 = lit< tt in
        omega arith

    by : (r : Result ℕ E) → OkIff r ((0 < length text) × (digits_value 10 text < 2 ^ 64)) (digits_value 10 text)
        → MatchOption (result_ok r) (has_digits places text ≡ false) (λ n. (has_digits places text ≡ true) × (n ≡ digits_value 10 text))
    by (Ok n) p = (rw (short, lt-ltb 0 (length text) p.0.0, digits) refl, p.1)
    by (Err e) p = elim (cases_lt 0 (length text)) [
      | inl some ↦ absurd (p (some, small))
      | inr none ↦ let empty : nat_lt 0 (length text) ≡ false = grind (arith, nat_tests) in rw (short, empty) refl
    ]

abbrev pub Digits : ℕ → List ℕ → Option ℕ → Type 0
Digits places text r = MatchOption r (has_digits places text ≡ false) (λ n. (has_digits places text ≡ true) × (n ≡ digits_value 10 text))

pub digits_none : (places : ℕ) (text : List ℕ) (r : Option ℕ) → Digits places text r → IfNone r (has_digits places text ≡ false)
digits_none places text None h = h
digits_none places text (Some n) h = tt

pub digits_some : (places : ℕ) (text : List ℕ) (r : Option ℕ) → Digits places text r → OnSome r (has_digits places text ≡ true)
digits_some places text None h = tt
digits_some places text (Some n) h = h.0
