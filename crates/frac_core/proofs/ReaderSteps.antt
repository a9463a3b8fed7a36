-- The steps of the reader of number text.
use Rattle.std.proofs.Common.{Result, IfOk, IfSome, option_map, IsSome, IsNone, ◌⊎◌, inl, inr, ℤ, pos, negsuc, neg_ℤ, unsigned_abs, codes, if◌then◌else◌, ◌≡◌, ◌∙◌, ℕ, ◌+◌, ◌-◌, ◌*◌, ◌^◌, ◌<◌, ◌≤◌, ◌++◌}
use Rattle.std.proofs.Common.{◌==◌, ◌&&◌, zero, suc, Bool, true, false, List, [], ◌∷◌, Option, Some, None, Ok, Err, length, take, drop, get_or, nat_lt, nat_le, arith, refl, sym, ap}
use mir.Syntax.{w128}
use mir.Val.{SFits, of_z, to_z}
use Rattle.std.proofs.lemmas.Int.{to_z-of_z}
use Rattle.std.specs.List.{suffix_len, list_any, before_first, after_first}
use Rattle.std.specs.Char.{is_ascii_digit}
use Rattle.std.specs.Str.{all_ascii_digits}
use Rattle.std.specs.Str.Parse.{digits_value, starts_with_minus, without_leading_sign}
use Rattle.std.proofs.Math.Dec.{lit<}
use Rattle.std.proofs.Math.Nat.{div-le_self, one-le-pow}
use Rattle.std.proofs.lemmas.Bool.{leb-true, ltb-true, le-leb, lt-ltb, ne_eqb, and_parts}
use Rattle.std.proofs.lemmas.Nat.{pow-add}
use Rattle.std.proofs.lemmas.List.{append-nil, length-append, take_all}
use Rattle.std.proofs.lemmas.List.Sums.{suffix_len-le-length}
use mathlib.Core.Bool.{and-false}
use Rattle.rational_laws.specs.Rational.{ℚ, ◌*ℚ◌, inverse, whole}
use Rattle.rational_laws.specs.Fraction.{Fraction, rational}
use Rattle.frac_core.specs.NumberText.{are_digits, number_of, written, decimal_form, decimal_of, in_range, is_exponent_mark, with_sign, written_decimal}
use Rattle.frac_core.specs.NumberText.{is_point, is_slash, is_zero_digit, scaled, significand, with_exponent, written_body, written_fraction}
use Rattle.frac_core.specs.NumberReading.{front, rest, within, fraction_of, IsWithin, HasRead, scan_decimal, scan_from}
use Rattle.frac_core.specs.declared.digits.Digits.{Digits}
use Rattle.frac_core.specs.Gcd.{gcd}
use Rattle.frac_core.specs.Overflow.{ReducesWithin}
use Rattle.frac_core.specs.declared.number_reader.Written.{Written}
use Rattle.frac_core.specs.declared.number_reader.NumberFault.{NumberFault}
use Rattle.frac_core.specs.declared.number_reader.NumberFault.TheVariants.{TooWide}
use Rattle.frac_core.proofs.DigitSteps.{grows}
use Rattle.frac_core.proofs.Scanning.{all-front, front-rest, past-rest, IsPast, not_all, written_body-scan}
use Rattle.frac_core.proofs.Signs.{unsigned_abs-signed}
use Rattle.frac_core.proofs.NumberLaws.{above_false}

-- ---- numbers that are too wide

pub wide_numerator : (limit m up down : ℕ) → limit < m * 10 ^ (up - down) → within limit (Some (scaled m up down)) ≡ Err TooWide
wide_numerator limit m up down h = rw (above_false (m * 10 ^ (up - down)) limit h) refl

pub wide_denominator : (limit m up down : ℕ) → limit < 10 ^ (down - up) → within limit (Some (scaled m up down)) ≡ Err TooWide
wide_denominator limit m up down h = rw (above_false (10 ^ (down - up)) limit h, and-false (nat_le (m * 10 ^ (up - down)) limit)) refl

big_power : (limit k : ℕ) → limit < 2 ^ 127 → 39 ≤ k → limit < 10 ^ k
big_power limit k small big =
    let whole : 39 + (k - 39) ≡ k = omega arith in
    let split = rw whole at (pow-add 10 39 (k - 39)) in
    let more = grows (10 ^ 39) (k - 39) in
    let base : 2 ^ 127 < 10 ^ 39 = lit< tt in
    omega (arith, split, more, base)

times_some : (n x : ℕ) → 0 < n → x ≤ n * x
times_some zero x h = absurd (omega arith)
times_some (suc n) x h = omega arith

-- ---- a decimal by its significand

pub decimal_by_parts : (whole behind : List ℕ) (m up down : ℕ) → significand (whole ++ behind) ≡ m → 0 < m
    → decimal_of whole behind up down ≡ scaled m (suffix_len is_zero_digit (whole ++ behind) + up) (length behind + down)
unfolding decimal_of
decimal_by_parts whole behind m up down e some = rw (e, ne_eqb m 0 (λ z. omega arith)) refl

pub wide_significand : (limit : ℕ) (whole behind : List ℕ) (negative : Bool) (e : ℕ) → limit < significand (whole ++ behind)
    → within limit (Some (with_exponent whole behind negative e)) ≡ Err TooWide
wide_significand limit whole behind true e h =
    let m = significand (whole ++ behind) in
    let up = suffix_len is_zero_digit (whole ++ behind) + 0 in
    rw (decimal_by_parts whole behind m 0 e refl (omega arith)) (wide_numerator limit m up (length behind + e) (omega (arith, grows m (up - (length behind + e)))))
wide_significand limit whole behind false e h =
    let m = significand (whole ++ behind) in
    let up = suffix_len is_zero_digit (whole ++ behind) + e in
    rw (decimal_by_parts whole behind m e 0 refl (omega arith)) (wide_numerator limit m up (length behind + 0) (omega (arith, grows m (up - (length behind + 0)))))

pub zero_significand : (limit : ℕ) (whole behind : List ℕ) (negative : Bool) (e : ℕ) → significand (whole ++ behind) ≡ 0 → 1 ≤ limit
    → within limit (Some (with_exponent whole behind negative e)) ≡ Ok (record { numerator = 0; denominator = 1 })
unfolding decimal_of
zero_significand limit whole behind true e z some = rw (z, le-leb 0 limit (omega arith), le-leb 1 limit some) refl
zero_significand limit whole behind false e z some = rw (z, le-leb 0 limit (omega arith), le-leb 1 limit some) refl

-- no digits make up for an exponent beyond 2 ^ 66
pub wide_exponent : (limit : ℕ) (whole behind : List ℕ) (negative : Bool) (e : ℕ) → limit < 2 ^ 127 → length whole + length behind < 2 ^ 64
    → 73786976294838206464 < e → 0 < significand (whole ++ behind) → within limit (Some (with_exponent whole behind negative e)) ≡ Err TooWide
wide_exponent limit whole behind true e small short big some =
    let m = significand (whole ++ behind) in
    let zeros = suffix_len is_zero_digit (whole ++ behind) in
    let few : zeros ≤ length whole + length behind = rw (← length-append whole behind) (suffix_len-le-length is_zero_digit (whole ++ behind)) in
    rw (decimal_by_parts whole behind m 0 e refl some) (wide_denominator limit m (zeros + 0) (length behind + e) (big_power limit (length behind + e - (zeros + 0)) small (omega arith)))
wide_exponent limit whole behind false e small short big some =
    let m = significand (whole ++ behind) in
    let zeros = suffix_len is_zero_digit (whole ++ behind) in
    let power = big_power limit (zeros + e - (length behind + 0)) small (omega arith) in
    let times = times_some m (10 ^ (zeros + e - (length behind + 0))) some in
    rw (decimal_by_parts whole behind m e 0 refl some) (wide_numerator limit m (zeros + e) (length behind + 0) (omega arith))

pub minus_power : (limit : ℕ) (whole behind : List ℕ) (m noughts power : ℕ) (negative : Bool) (e : ℕ) → m ≡ significand (whole ++ behind) → 0 < m
    → noughts ≡ suffix_len is_zero_digit (whole ++ behind) → power ≡ e → negative ≡ true
    → within limit (Some (with_exponent whole behind negative e)) ≡ within limit (Some (scaled m noughts (length behind + power)))
minus_power limit whole behind m noughts power negative e same some z p sign =
    let none : suffix_len is_zero_digit (whole ++ behind) + 0 ≡ noughts = omega arith in
    rw (sign, decimal_by_parts whole behind m 0 e (sym same) some, none, p) refl

pub plus_power : (limit : ℕ) (whole behind : List ℕ) (m noughts power : ℕ) (negative : Bool) (e : ℕ) → m ≡ significand (whole ++ behind) → 0 < m
    → noughts ≡ suffix_len is_zero_digit (whole ++ behind) → power ≡ e → negative ≡ false
    → within limit (Some (with_exponent whole behind negative e)) ≡ within limit (Some (scaled m (noughts + power) (length behind)))
plus_power limit whole behind m noughts power negative e same some z p sign =
    let none : length behind + 0 ≡ length behind = omega arith in
    rw (sign, decimal_by_parts whole behind m e 0 (sym same) some, none, p, z) refl

-- ---- digits alone

no_items : (xs : List ℕ) → length xs ≡ 0 → xs ≡ []
no_items [] h = refl
no_items (x ∷ xs) h = absurd (omega arith)

pub front_alone : (text : List ℕ) → length (rest text) ≡ 0 → front text ≡ text
front_alone text h = sym (append-nil (front text)) ∙ ap (λ (xs : List ℕ). front text ++ xs) (sym (no_items (rest text) h)) ∙ front-rest text

pub digits_alone : (text : List ℕ) → 0 < length (front text) → length (rest text) ≡ 0 → are_digits text ≡ true
digits_alone text some none =
    let same = front_alone text none in
    let digits = rw same at (all-front text) in
    let more = rw same at some in
    rw (digits, lt-ltb 0 (length text) more) refl

pub no_digit_first : (text : List ℕ) → length (front text) ≡ 0 → are_digits text ≡ false
no_digit_first text none = by (rest text) refl (past-rest text)
  where
    whole : (xs : List ℕ) → rest text ≡ xs → xs ≡ text
    whole xs e = sym e ∙ ap (λ (ds : List ℕ). ds ++ rest text) (sym (no_items (front text) none)) ∙ front-rest text

    by : (xs : List ℕ) → rest text ≡ xs → IsPast xs → are_digits text ≡ false
    by [] e past = rw (← whole [] e) refl
    by (b ∷ xs) e past = rw (← whole (b ∷ xs) e, past) (and-false (nat_lt 0 (length (b ∷ xs))))

pub more_than_digits : (text : List ℕ) → 0 < length (rest text) → are_digits text ≡ false
more_than_digits text some = by (rest text) refl (past-rest text)
  where
    by : (xs : List ℕ) → rest text ≡ xs → IsPast xs → are_digits text ≡ false
    by [] e past = absurd (omega (arith, ap length e))
    by (b ∷ xs) e past =
        let whole : front text ++ b ∷ xs ≡ text = ap (λ (ys : List ℕ). front text ++ ys) (sym e) ∙ front-rest text in
        rw (← whole, not_all (front text) xs b past) (and-false (nat_lt 0 (length (front text ++ b ∷ xs))))

-- ---- what a reader has taken in

pub significand_is : (ds : List ℕ) (r : Digits) (n : ℕ) → HasRead ds r → r.significand ≡ Some n → n ≡ significand ds
significand_is ds r n h e = rw e at h.value

pub few_zeros : (whole behind : List ℕ) (r : Digits) → HasRead (whole ++ behind) r → r.zeros ≤ length whole + length behind
few_zeros whole behind r h = rw (h.zeros, ← length-append whole behind) (suffix_len-le-length is_zero_digit (whole ++ behind))

-- ---- a text by the byte behind its first digits

-- what stands behind the first byte
abbrev pub behind_first : List ℕ → List ℕ
behind_first xs = take (length xs - 1) (drop 1 xs)

take_tail : (x : ℕ) (xs : List ℕ) → behind_first (x ∷ xs) ≡ xs
take_tail x xs = take_all (length (x ∷ xs) - 1) xs (omega arith)

pub by_slash : (text past : List ℕ) → past ≡ rest text → 0 < length past → get_or past 0 0 ≡ 47
    → written_body text ≡ written_fraction (front text) (behind_first past)
by_slash text [] e some slash = absurd (omega arith)
by_slash text (b ∷ xs) e some slash = written_body-scan text ∙ ap (scan_from (front text)) (sym e) ∙ at slash
  where
    at : b ≡ 47 → scan_from (front text) (b ∷ xs) ≡ written_fraction (front text) (behind_first (b ∷ xs))
    at h = rw (take_tail b xs, h) refl

pub by_point : (text past : List ℕ) → past ≡ rest text → 0 < length past → get_or past 0 0 ≡ 46
    → written_body text ≡ scan_decimal (front text) (front (behind_first past)) (rest (behind_first past))
by_point text [] e some point = absurd (omega arith)
by_point text (b ∷ xs) e some point = written_body-scan text ∙ ap (scan_from (front text)) (sym e) ∙ at point
  where
    at : b ≡ 46 → scan_from (front text) (b ∷ xs) ≡ scan_decimal (front text) (front (behind_first (b ∷ xs))) (rest (behind_first (b ∷ xs)))
    at h = rw (take_tail b xs, h) refl

pub by_other : (text past : List ℕ) → past ≡ rest text → (0 < length past → get_or past 0 0 ≡ 47 → ⊥) → (0 < length past → get_or past 0 0 ≡ 46 → ⊥)
    → written_body text ≡ scan_decimal (front text) [] past
by_other text [] e slash point = written_body-scan text ∙ ap (scan_from (front text)) (sym e)
by_other text (b ∷ xs) e slash point =
    let no_slash : is_slash b ≡ false = ne_eqb b 47 (slash (omega arith)) in
    let no_point : is_point b ≡ false = ne_eqb b 46 (point (omega arith)) in
    written_body-scan text ∙ ap (scan_from (front text)) (sym e) ∙ (rw (no_slash, no_point) refl)

pub length-front-rest : (text : List ℕ) → length (front text) + length (rest text) ≡ length text
length-front-rest text = sym (length-append (front text) (rest text)) ∙ ap length (front-rest text)

pub length-behind_first : (xs : List ℕ) → length (behind_first xs) ≤ length xs
length-behind_first [] = omega arith
length-behind_first (x ∷ xs) = rw (take_tail x xs) (omega arith)

pub digits_append : (xs ys : List ℕ) → all_ascii_digits xs ≡ true → all_ascii_digits ys ≡ true → all_ascii_digits (xs ++ ys) ≡ true
digits_append [] ys h k = k
digits_append (x ∷ xs) ys h k = let parts = and_parts (is_ascii_digit x) (all_ascii_digits xs) h in rw (parts.0, digits_append xs ys parts.1 k) refl

-- ---- the value of two numbers and a sign

-- the fraction of two whole numbers, whose denominator isn't 0
pub record IsUnsigned (x : Fraction) : Type 0 where
  pub num : x.num ≡ pos (unsigned_abs x.num)
  pub den : 1 ≤ x.den

if_some : (t : Bool) (x : Fraction) → (t ≡ true → IsUnsigned x) → IfSome (if t then Some x else None) IsUnsigned
if_some true x h = h refl
if_some false x h = tt

unsigned_scaled : (m up down : ℕ) → IsUnsigned (scaled m up down)
unsigned_scaled m up down = record { num = refl; den = one-le-pow (down - up) 10 (lit< tt) }

unsigned_decimal : (whole behind : List ℕ) (up down : ℕ) → IsUnsigned (decimal_of whole behind up down)
unfolding decimal_of
unsigned_decimal whole behind up down = by (significand (whole ++ behind) == 0)
  where
    by : (t : Bool) → IsUnsigned (if t then scaled 0 0 0 else scaled (significand (whole ++ behind)) (suffix_len is_zero_digit (whole ++ behind) + up) (length behind + down))
    by true = unsigned_scaled 0 0 0
    by false = unsigned_scaled (significand (whole ++ behind)) (suffix_len is_zero_digit (whole ++ behind) + up) (length behind + down)

unsigned_power : (whole behind : List ℕ) (negative : Bool) (e : ℕ) → IsUnsigned (with_exponent whole behind negative e)
unsigned_power whole behind true e = unsigned_decimal whole behind 0 e
unsigned_power whole behind false e = unsigned_decimal whole behind e 0

unsigned_fraction : (above below : List ℕ) → IfSome (written_fraction above below) IsUnsigned
unsigned_fraction above below =
    if_some (are_digits above && are_digits below && nat_lt 0 (digits_value 10 below)) _
    (λ h. record { num = refl; den = ltb-true 0 (digits_value 10 below) (and_parts (are_digits above && are_digits below) (nat_lt 0 (digits_value 10 below)) h).1 })

unsigned_form : (whole behind exponent : List ℕ) → IfSome (decimal_form whole behind exponent) IsUnsigned
unsigned_form whole behind exponent =
    if_some (are_digits (whole ++ behind) && are_digits (without_leading_sign exponent)) _
    (λ h. unsigned_power whole behind (starts_with_minus exponent) (digits_value 10 (without_leading_sign exponent)))

pub unsigned_body : (text : List ℕ) → IfSome (written_body text) IsUnsigned
unfolding written_body
unsigned_body text = by (list_any is_slash text)
  where
    mantissa : List ℕ
    mantissa = before_first is_exponent_mark text

    by : (t : Bool) → IfSome (if t then written_fraction (before_first is_slash text) (after_first is_slash text) else written_decimal text) IsUnsigned
    by true = unsigned_fraction (before_first is_slash text) (after_first is_slash text)
    by false = unsigned_form (before_first is_point mantissa) (after_first is_point mantissa) (if list_any is_exponent_mark text then after_first is_exponent_mark text else codes "0")

-- what is found within a limit is within it
pub found_within : (limit : ℕ) (x : Option Fraction) → IfSome x IsUnsigned → IfOk (within limit x) (IsWithin limit)
found_within limit None u = tt
found_within limit (Some x) u = by (nat_le (unsigned_abs x.num) limit) (nat_le x.den limit) refl refl
  where
    by : (s t : Bool) → nat_le (unsigned_abs x.num) limit ≡ s → nat_le x.den limit ≡ t
        → IfOk (if s && t then Ok (record { numerator = unsigned_abs x.num; denominator = x.den }) else Err TooWide) (IsWithin limit)
    by true true h k = record { numerator = leb-true (unsigned_abs x.num) limit h; denominator = leb-true x.den limit k; positive = u.den }
    by true false h k = tt
    by false t h k = tt

-- an answer to a text without its sign, and to the text
abbrev pub Answers : ℕ → Bool → Option Fraction → Result Written NumberFault → Type 0
Answers range negative x (Ok p) = in_range range (option_map (with_sign negative) x) ≡ Ok (rational (fraction_of negative p))
Answers range negative x (Err e) = in_range range (option_map (with_sign negative) x) ≡ Err e

abs_sign : (negative : Bool) (x : Fraction) → unsigned_abs (with_sign negative x).num ≡ unsigned_abs x.num
abs_sign true x = abs_neg x.num
  where
    abs_neg : (z : ℤ) → unsigned_abs (neg_ℤ z) ≡ unsigned_abs z
    abs_neg (pos zero) = refl
    abs_neg (pos (suc n)) = refl
    abs_neg (negsuc n) = refl
abs_sign false x = refl

pub signed_answer : (range : ℕ) (negative : Bool) (x : Option Fraction) → IfSome x IsUnsigned → Answers range negative x (within range x)
signed_answer range negative None u = refl
signed_answer range negative (Some x) u = by (nat_le (unsigned_abs x.num) range && nat_le x.den range) (ap (λ (n : ℕ). nat_le n range && nat_le x.den range) (abs_sign negative x))
  where
    by : (t : Bool) → (nat_le (unsigned_abs (with_sign negative x).num) range && nat_le x.den range) ≡ t
        → Answers range negative (Some x) (if t then Ok (record { numerator = unsigned_abs x.num; denominator = x.den }) else Err TooWide)
    by true h = rw (h, ← u.num) refl
    by false h = rw h refl

pub reduces : (range : ℕ) (n : ℤ) (d : ℕ) → unsigned_abs n ≤ range → d ≤ range → ReducesWithin range n d
reduces range n d h k = record {
  num = omega (arith, div-le_self (unsigned_abs n) (gcd (unsigned_abs n) d));
  den = omega (arith, div-le_self d (gcd (unsigned_abs n) d));
}

not_zero : (d : ℕ) → 1 ≤ d → pos d ≡ pos 0 → ⊥
not_zero zero h e = absurd (omega arith)
not_zero (suc d) h e = cc

-- two numbers within a range make a value
pub some_value : {X : Type 0} (o : Option X) (range m d : ℕ) (negative : Bool) (n e : ℤ) → n ≡ (if negative then neg_ℤ (pos m) else pos m) → e ≡ pos d
    → m ≤ range → d ≤ range → 1 ≤ d → (IsNone o → (e ≡ pos 0) ⊎ ¬ (ReducesWithin range n (unsigned_abs e))) → IsSome o
some_value (Some x) range m d negative n e ns es hm hd positive none = refl
some_value None range m d negative n e ns es hm hd positive none =
    elim (none refl) [
      | inl z ↦ absurd (not_zero d positive (sym es ∙ z))
      | inr beyond ↦ absurd (beyond (reduces range n (unsigned_abs e) (rw (ns, unsigned_abs-signed negative m) hm) (rw es hd)))
    ]

-- their value
pub value_is : (v : ℚ) (m d : ℕ) (negative : Bool) (n e : ℤ) → n ≡ (if negative then neg_ℤ (pos m) else pos m) → e ≡ pos d
    → v ≡ whole n *ℚ inverse (whole e) → v ≡ rational (with_sign negative (record { num = pos m; den = d }))
value_is v m d negative n e ns es h = rw (ns, es) at h

-- ---- the answer to a text

answers : (range limit : ℕ) (text body : List ℕ) (negative : Bool) → limit ≡ range → negative ≡ starts_with_minus text → body ≡ without_leading_sign text
    → Answers range negative (written_body (without_leading_sign text)) (within limit (written_body body))
answers range limit text body negative l s b = rw (l, b) (signed_answer range negative (written_body (without_leading_sign text)) (unsigned_body (without_leading_sign text)))

pub number_ok : (range limit : ℕ) (text body : List ℕ) (negative : Bool) (p : Written) → limit ≡ range → negative ≡ starts_with_minus text → body ≡ without_leading_sign text
    → Ok p ≡ within limit (written_body body) → number_of range text ≡ Ok (rational (fraction_of negative p))
unfolding number_of written
number_ok range limit text body negative p l s b e = rw s (rw (← e) at (answers range limit text body (starts_with_minus text) l refl b))

pub number_err : (range limit : ℕ) (text body : List ℕ) (negative : Bool) (f : NumberFault) → limit ≡ range → negative ≡ starts_with_minus text → body ≡ without_leading_sign text
    → Err f ≡ within limit (written_body body) → number_of range text ≡ Err f
unfolding number_of written
number_err range limit text body negative f l s b e = rw (← e) at (answers range limit text body (starts_with_minus text) l refl b)

-- a range that is given as a signed number
pub range_is_limit : (range : ℕ) (z c : ℤ) → SFits w128 c → c ≡ z → z ≡ pos range → unsigned_abs (to_z w128 (of_z w128 c)) ≡ range
range_is_limit range z c fits e r = rw (to_z-of_z w128 c fits, e, r) refl
