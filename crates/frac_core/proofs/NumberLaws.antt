-- The laws of number text.
use Rattle.std.proofs.Common.{◌≡◌, ◌∙◌, ℕ, ◌+◌, ◌-◌, ◌*◌, ◌%◌, ◌^◌, ◌<◌, ◌≤◌, ◌++◌, ◌==◌, ◌⊎◌, inl, inr, suc, Bool, true, false, List, []}
use Rattle.std.proofs.Common.{◌∷◌, Option, Some, Err, ℤ, pos, negsuc, length, reverse, decimal, arith, refl, sym, ap, subst, nat_le, if◌then◌else◌, codes, unsigned_abs, option_map}
use Rattle.std.specs.Fmt.{signed_decimal}
use Rattle.std.specs.List.{suffix_len}
use Rattle.std.specs.Char.{is_ascii_digit}
use Rattle.std.specs.Str.{all_ascii_digits}
use Rattle.std.specs.Str.Parse.{digits_value, starts_with_minus, without_leading_sign}
use Rattle.std.proofs.Math.Dec.{lit<}
use Rattle.std.proofs.Math.Nat.{mul-add-mod_self_right, mod-eq_of_lt, pow-le-pow_right}
use Rattle.std.proofs.lemmas.Bool.{le-leb, lt-ltb, cases_lt, and_parts}
use Rattle.std.proofs.lemmas.Bool.Decides.{nat_tests}
use Rattle.std.proofs.lemmas.List.{append-nil, reverse-append, reverse-reverse}
use Rattle.frac_core.specs.NumberText.{are_digits, decimal_form, decimal_of, in_range, is_zero_digit, number_of, number_text_of, scaled, significand, with_sign, written, written_body, written_fraction}
use Rattle.rational_laws.specs.Fraction.{Fraction}
use Rattle.std.proofs.lemmas.Fmt.{decimal_is_IsNumeral_wide}
use Rattle.std.proofs.lemmas.Str.Parse.{IsNumeralModel, numerals_by_value, tells_all_ascii_digits}
use mathlib.Core.Bool.{and-false}
use Rattle.frac_core.specs.NumberLaws.{AreTooWide, HaveSignificand, ReadsBack}
use Rattle.frac_core.specs.declared.number_reader.NumberFault.TheVariants.{TooWide}
use Rattle.frac_core.proofs.DigitSteps.{digits_value-push, grows, next_power, significand-push_other, significand-push_zero, suffix_len-push, zeros-push_other}
use Rattle.frac_core.proofs.Scanning.{by_first_digits}

-- ---- digits

-- m * 10 ^ k, where 10 doesn't divide m unless m is 0
abbrev pub IsScientific : List ℕ → Type 0
IsScientific ds = (digits_value 10 ds ≡ significand ds * 10 ^ suffix_len is_zero_digit ds) × ((significand ds ≡ 0) ⊎ ¬ (significand ds % 10 ≡ 0))

none_scientific : IsScientific []
unfolding significand
none_scientific = (refl, inl refl)

push_scientific : (ds : List ℕ) (c : ℕ) → is_ascii_digit c ≡ true → IsScientific ds → IsScientific (ds ++ c ∷ [])
push_scientific ds c digit h = by (c == 48) refl
  where
    zero_digit : c ≡ 48 → IsScientific (ds ++ c ∷ [])
    zero_digit e =
        let value : digits_value 10 (ds ++ 48 ∷ []) ≡ significand ds * 10 ^ (suffix_len is_zero_digit ds + 1) =
        digits_value-push ds 48 refl ∙ omega arith ∙ next_power (digits_value 10 ds) (significand ds) (suffix_len is_zero_digit ds) h.0 in
        let size : 1 + suffix_len is_zero_digit ds ≡ suffix_len is_zero_digit ds + 1 = omega arith in
        rw (e, significand-push_zero ds, suffix_len-push ds 48, size) (value, h.1)

    other_digit : (c ≡ 48 → ⊥) → IsScientific (ds ++ c ∷ [])
    other_digit ne =
        let least : 48 ≤ c = grind (arith, nat_tests) in
        let most : c ≤ 57 = grind (arith, nat_tests) in
        let last : (digits_value 10 ds * 10 + (c - 48)) % 10 ≡ c - 48 = mul-add-mod_self_right (digits_value 10 ds) 10 (c - 48) ∙ mod-eq_of_lt (omega arith) in
        let value : digits_value 10 (ds ++ c ∷ []) ≡ digits_value 10 ds * 10 + (c - 48) = digits_value-push ds c digit in
        rw (significand-push_other ds c digit ne, zeros-push_other ds c ne, value, last) (omega arith, inr (λ e. ne (omega arith)))

    by : (t : Bool) → (c == 48) ≡ t → IsScientific (ds ++ c ∷ [])
    by true e = zero_digit (grind (arith, nat_tests))
    by false e = other_digit (λ z. absurd (grind (arith, nat_tests)))

digits_apart : (xs ys : List ℕ) → all_ascii_digits (xs ++ ys) ≡ true → (all_ascii_digits xs ≡ true) × (all_ascii_digits ys ≡ true)
digits_apart [] ys h = (refl, h)
digits_apart (x ∷ xs) ys h =
    let parts = and_parts (is_ascii_digit x) (all_ascii_digits (xs ++ ys)) h in
    let more = digits_apart xs ys parts.1 in
    (rw (parts.0, more.0) refl, more.1)

backwards : (xs : List ℕ) → all_ascii_digits (reverse xs) ≡ true → IsScientific (reverse xs)
backwards [] h = none_scientific
backwards (x ∷ xs) h =
    let turned : reverse (x ∷ xs) ≡ reverse xs ++ x ∷ [] = reverse-append (x ∷ []) xs in
    let digits = digits_apart (reverse xs) (x ∷ []) (rw turned at h) in
    subst IsScientific (sym turned) (push_scientific (reverse xs) x (and_parts (is_ascii_digit x) true digits.1).0 (backwards xs digits.0))

pub have_significand : HaveSignificand
have_significand digits h = subst IsScientific (reverse-reverse digits) (backwards (reverse digits) (rw reverse-reverse h))

-- ---- the range

abbrev Beyond : ℕ → ℕ → ℕ → ℕ → ℕ → Type 0
Beyond range z m up down = (range < m) ⊎ (((down ≤ up) × (range < m * 10 ^ (up - down))) ⊎ (up + z < down))

not_within : (n range : ℕ) → nat_le n range ≡ false → range < n
not_within n range h = grind (arith, nat_tests)

pub above_false : (n range : ℕ) → range < n → nat_le n range ≡ false
above_false n range h = grind (arith, nat_tests)

wide_numerator : (range z m up down : ℕ) → range < m * 10 ^ (up - down) → Beyond range z m up down
wide_numerator range z m up down h = elim (cases_lt up down) [
  | inl lt ↦ let none : up - down ≡ 0 = omega arith in let same = rw none at h in inl (omega arith)
  | inr le ↦ inr (inl (le, h))
]

wide_denominator : (range z m up down : ℕ) → 10 ^ z ≤ range → range < 10 ^ (down - up) → Beyond range z m up down
wide_denominator range z m up down low h = elim (cases_lt (up + z) down) [
  | inl lt ↦ inr (inr lt)
  | inr le ↦
      let few : down - up ≤ z = omega arith in
      let least : 10 ^ (down - up) ≤ 10 ^ z = pow-le-pow_right (lit< tt) few in
      absurd (omega arith)
]

beyond : (range z m up down : ℕ) → 10 ^ z ≤ range → (s t : Bool) → nat_le (m * 10 ^ (up - down)) range ≡ s → nat_le (10 ^ (down - up)) range ≡ t
    → in_range range (Some (scaled m up down)) ≡ Err TooWide → Beyond range z m up down
beyond range z m up down low false t h k e = wide_numerator range z m up down (not_within _ range h)
beyond range z m up down low true false h k e = wide_denominator range z m up down low (not_within _ range k)
beyond range z m up down low true true h k e = let ok = rw (h, k) at e in absurd (cc)

too_wide : (range z m up down : ℕ) → range < 10 ^ (z + 1) → Beyond range z m up down → in_range range (Some (scaled m up down)) ≡ Err TooWide
too_wide range z m up down high (inl h) = rw (above_false (m * 10 ^ (up - down)) range (omega (arith, grows m (up - down)))) refl
too_wide range z m up down high (inr (inl h)) = rw (above_false (m * 10 ^ (up - down)) range h.1) refl
too_wide range z m up down high (inr (inr h)) =
    let many : z + 1 ≤ down - up = omega arith in
    let least : 10 ^ (z + 1) ≤ 10 ^ (down - up) = pow-le-pow_right (lit< tt) many in
    rw (above_false (10 ^ (down - up)) range (omega arith), and-false (nat_le (m * 10 ^ (up - down)) range)) refl

pub are_too_wide : AreTooWide
are_too_wide range z m up down low high = (beyond range z m up down low _ _ refl refl, too_wide range z m up down high)

-- ---- reading what was written

own : IsNumeralModel (λ ds. all_ascii_digits ds ≡ true) (digits_value 10)
own = numerals_by_value (λ ds. all_ascii_digits ds ≡ true) tells_all_ascii_digits

-- one digit or more, of this value
record Writes (n : ℕ) (ds : List ℕ) : Type 0 where
  digits : all_ascii_digits ds ≡ true
  some : 0 < length ds
  value : digits_value 10 ds ≡ n

decimal_writes : (n : ℕ) → n < 2 ^ 127 → Writes n (decimal n)
decimal_writes n small =
    let most : 2 ^ 127 < 10 ^ 64 = lit< tt in
    let numeral = decimal_is_IsNumeral_wide n (omega arith) in
    record { digits = own.from (decimal n) numeral.0.1; some = numeral.0.0; value = numeral.1 }

-- digits alone are the decimal of their value
whole_decimal : (n : ℕ) (ds : List ℕ) → Writes n ds → decimal_of ds [] 0 0 ≡ record { num = pos n; den = 1 }
unfolding decimal_of
whole_decimal n ds w = rw append-nil (by (significand ds == 0) refl)
  where
    zeros : ℕ
    zeros = suffix_len is_zero_digit ds

    all : n ≡ significand ds * 10 ^ zeros
    all = sym w.value ∙ (have_significand ds w.digits).0

    by : (t : Bool) → (significand ds == 0) ≡ t → (if t then scaled 0 0 0 else scaled (significand ds) (zeros + 0) (0 + 0)) ≡ record { num = pos n; den = 1 }
    by true h =
        let none : significand ds ≡ 0 = grind (arith, nat_tests) in
        let zero : n ≡ 0 = let value = rw none at all in omega arith in
        rw zero refl
    by false h =
        let up : zeros + 0 - 0 ≡ zeros = omega arith in
        let down : 0 - (zeros + 0) ≡ 0 = omega arith in
        rw (up, down, ← all) refl

are_digits_from : (n : ℕ) (ds : List ℕ) → Writes n ds → are_digits ds ≡ true
are_digits_from n ds w = rw (lt-ltb 0 (length ds) w.some, w.digits) refl

whole_body : (n : ℕ) (ds : List ℕ) → Writes n ds → written_body ds ≡ Some (record { num = pos n; den = 1 })
whole_body n ds w = ap written_body (sym (append-nil ds)) ∙ by_first_digits ds [] w.digits tt ∙ form
  where
    form : decimal_form ds [] (codes "0") ≡ Some (record { num = pos n; den = 1 })
    form = rw (append-nil ds, are_digits_from n ds w, whole_decimal n ds w) refl

fraction_body : (n d : ℕ) (ds es : List ℕ) → Writes n ds → Writes d es → 1 ≤ d → written_body (ds ++ 47 ∷ es) ≡ Some (record { num = pos n; den = d })
fraction_body n d ds es w v positive = by_first_digits ds (47 ∷ es) w.digits refl ∙ form
  where
    form : written_fraction ds es ≡ Some (record { num = pos n; den = d })
    form = rw (are_digits_from n ds w, are_digits_from d es v, w.value, v.value, lt-ltb 0 d positive) refl

pub no_sign : (ds xs : List ℕ) → all_ascii_digits ds ≡ true → 0 < length ds → (starts_with_minus (ds ++ xs) ≡ false) × (without_leading_sign (ds ++ xs) ≡ ds ++ xs)
no_sign [] xs digits some = absurd (omega arith)
no_sign (d ∷ ds) xs digits some =
    let digit = (and_parts (is_ascii_digit d) (all_ascii_digits ds) digits).0 in
    let minus : (d == 45) ≡ false = grind (arith, nat_tests) in
    let plus : (d == 43) ≡ false = grind (arith, nat_tests) in
    (minus, rw (minus, plus) refl)

-- the text of a number that isn't negative, and that of a negative one
not_negative : (ds xs : List ℕ) (x : Option Fraction) → all_ascii_digits ds ≡ true → 0 < length ds → written_body (ds ++ xs) ≡ x → written (ds ++ xs) ≡ option_map (with_sign false) x
unfolding written
not_negative ds xs x digits some e = let none = no_sign ds xs digits some in rw (none.1, none.0, e) refl

negative : (xs : List ℕ) (x : Option Fraction) → written_body xs ≡ x → written (45 ∷ xs) ≡ option_map (with_sign true) x
unfolding written
negative xs x e = rw e refl

written_text : (n : ℤ) (d : ℕ) → unsigned_abs n < 2 ^ 127 → d < 2 ^ 127 → 1 ≤ d → written (number_text_of (record { num = n; den = d })) ≡ Some (record { num = n; den = d })
unfolding number_text_of
written_text n d small few positive = by (d == 1) refl
  where
    fraction : (n : ℤ) → unsigned_abs n < 2 ^ 127 → written (signed_decimal n ++ 47 ∷ decimal d) ≡ Some (record { num = n; den = d })
    fraction (pos m) h = let w = decimal_writes m h in not_negative (decimal m) (47 ∷ decimal d) _ w.digits w.some (fraction_body m d (decimal m) (decimal d) w (decimal_writes d few) positive)
    fraction (negsuc m) h = negative (decimal (suc m) ++ 47 ∷ decimal d) _ (fraction_body (suc m) d (decimal (suc m)) (decimal d) (decimal_writes (suc m) h) (decimal_writes d few) positive)

    whole : (n : ℤ) → unsigned_abs n < 2 ^ 127 → written (signed_decimal n) ≡ Some (record { num = n; den = 1 })
    whole (pos m) h = let w = decimal_writes m h in ap written (sym (append-nil (decimal m))) ∙ not_negative (decimal m) [] _ w.digits w.some (ap written_body (append-nil (decimal m)) ∙ whole_body m (decimal m) w)
    whole (negsuc m) h = negative (decimal (suc m)) _ (whole_body (suc m) (decimal (suc m)) (decimal_writes (suc m) h))

    by : (t : Bool) → (d == 1) ≡ t → written (if t then signed_decimal n else (signed_decimal n ++ 47 ∷ decimal d)) ≡ Some (record { num = n; den = d })
    by true e = let one : d ≡ 1 = grind (arith, nat_tests) in rw one (whole n small)
    by false e = fraction n small

pub reads_back : ReadsBack
unfolding number_of
reads_back range x small within =
    rw (written_text x.num x.den (omega (arith, within.num_fits)) (omega (arith, within.den_fits)) within.positive, le-leb (unsigned_abs x.num) range within.num_fits, le-leb x.den range within.den_fits) refl
