-- A number text byte by byte, and the longest one at the front of a text.
use Rattle.std.proofs.Common.{◌≡◌, ◌<◌, ◌≤◌, ◌+◌, ◌-◌, ◌*◌, ◌==◌, ◌&&◌, ◌||◌, ◌++◌, ◌∷◌, [], ℕ, zero, suc, Bool, true, false, List, Option, Some}
use Rattle.std.proofs.Common.{None, option_map, option_and_then, is_some, cond, codes, length, take, drop, get_or, nat_lt, refl, sym, ◌∙◌, ap, append_assoc, append-nil, arith, lit<, add-one, if◌then◌else◌}
use Rattle.std.specs.Char.{digit_value, is_ascii_digit}
use Rattle.std.specs.Str.{all_ascii_digits}
use Rattle.std.specs.Str.Parse.{digits_value, digits_value_after, starts_with_minus, without_leading_sign}
use Rattle.std.specs.List.{prefix_len}
use Rattle.std.proofs.lemmas.Bool.Decides.{nat_tests}
use Rattle.std.proofs.lemmas.List.{take_more, take-take, take-append-drop}
use Rattle.std.proofs.lemmas.Bool.{and_parts}
use Rattle.rational_laws.specs.Fraction.{Fraction}
use Rattle.frac_core.specs.NumberText.{are_digits, decimal_form, is_exponent_mark, is_number_text, is_point, is_slash, is_zero_digit, with_sign, written, written_body, written_fraction}
use Rattle.frac_core.specs.NumberReading.{front, rest, scan, scan_decimal, scan_from}
use Rattle.frac_core.proofs.DigitSteps.{digit_is}
use Rattle.frac_core.proofs.ReaderSteps.{digits_append}
use Rattle.frac_core.proofs.Scanning.{written_body-scan, one_more, slash_apart, point_apart, mark_apart}
use Rattle.formula_grammar.specs.Numbers.{NumberPart, Empty, Integer, LonePoint, Decimals, ExponentMark, ExponentSign, Exponent, Slash, Denominator, digit_then, greatest, is_signed, is_whole, next_part, number_len, part_behind}
use Rattle.formula_grammar.specs.Tokens.{begins_number, starts_by}

-- ---- digits

value_grows : (n : ℕ) (ds : List ℕ) → n ≤ digits_value_after 10 n ds
value_grows n [] = omega arith
value_grows n (d ∷ ds) = omega (arith, value_grows (n * 10 + digit_value d) ds)

-- ---- number texts

abbrev ends : Option NumberPart → Bool
ends None = false
ends (Some p) = is_whole p

-- a number text may go on from a part with these bytes and end
abbrev accepts : NumberPart → List ℕ → Bool
accepts p text = ends (part_behind p text)

abbrev then_accepts : Option NumberPart → List ℕ → Bool
then_accepts q text = ends (option_and_then (λ p. part_behind p text) q)

some_byte : (b : ℕ) (bs : List ℕ) → nat_lt 0 (length (b ∷ bs)) ≡ true
some_byte b bs = grind (arith, nat_tests)

-- a byte that only a digit may be
by_digit : (b : ℕ) (bs : List ℕ) (next : NumberPart) (rest : Bool) → accepts next bs ≡ rest → then_accepts (digit_then b next) bs ≡ (is_ascii_digit b && rest)
by_digit b bs next rest h = elim (is_ascii_digit b) as (λ t. then_accepts (if t then Some next else None) bs ≡ (t && rest)) [ true ↦ h | false ↦ refl ]

exponent_digits : (bs : List ℕ) → accepts Exponent bs ≡ all_ascii_digits bs
exponent_digits [] = refl
exponent_digits (b ∷ bs) = by_digit b bs Exponent (all_ascii_digits bs) (exponent_digits bs)

denominator_digits : (bs : List ℕ) → accepts Denominator bs ≡ all_ascii_digits bs
denominator_digits [] = refl
denominator_digits (b ∷ bs) = by_digit b bs Denominator (all_ascii_digits bs) (denominator_digits bs)

sign_digits : (bs : List ℕ) → accepts ExponentSign bs ≡ are_digits bs
sign_digits [] = refl
sign_digits (b ∷ bs) = by_digit b bs Exponent (all_ascii_digits bs) (exponent_digits bs) ∙ rw some_byte refl

mark_digits : (bs : List ℕ) → accepts ExponentMark bs ≡ are_digits (without_leading_sign bs)
mark_digits [] = refl
mark_digits (b ∷ bs) = go (b == 45) (b == 43) refl refl
  where
    go : (m p : Bool) → (b == 45) ≡ m → (b == 43) ≡ p
        → then_accepts (if m || p then Some ExponentSign else digit_then b Exponent) bs ≡ are_digits (cond m bs (drop (cond p 1 0) (b ∷ bs)))
    go true p d e = sign_digits bs
    go false true d e = sign_digits bs
    go false false d e = by_digit b bs Exponent (all_ascii_digits bs) (exponent_digits bs) ∙ rw some_byte refl

fraction_digits : (bs : List ℕ) → accepts Slash bs ≡ (all_ascii_digits bs && nat_lt 0 (digits_value_after 10 0 bs))
fraction_digits [] = refl
fraction_digits (b ∷ bs) = go (fraction_digits bs) (is_zero_digit b) (is_ascii_digit b) refl refl
  where
    and_true : (t : Bool) → t ≡ (t && true)
    and_true true = refl
    and_true false = refl

    zero_is : is_zero_digit b ≡ true → b ≡ 48
    zero_is e = grind (arith, nat_tests)

    positive : is_zero_digit b ≡ false → is_ascii_digit b ≡ true → nat_lt 0 (digits_value_after 10 (0 * 10 + digit_value b) bs) ≡ true
    positive e d =
        let value : digit_value b ≡ b - 48 = digit_is b d in
        let above : 0 < b - 48 = grind (arith, nat_tests) in
        let grows = value_grows (0 * 10 + digit_value b) bs in
        let lt : 0 < digits_value_after 10 (0 * 10 + digit_value b) bs = omega arith in
        grind (arith, nat_tests)

    go : accepts Slash bs ≡ (all_ascii_digits bs && nat_lt 0 (digits_value_after 10 0 bs)) → (z t : Bool) → is_zero_digit b ≡ z → is_ascii_digit b ≡ t
        → then_accepts (if z then Some Slash else (if t then Some Denominator else None)) bs ≡ ((t && all_ascii_digits bs) && nat_lt 0 (digits_value_after 10 (0 * 10 + digit_value b) bs))
    go more true t e d =
        let c = zero_is e in
        let digit : t ≡ true = sym d ∙ rw c refl in
        rw (digit, c) more
    go more false true e d = denominator_digits bs ∙ and_true (all_ascii_digits bs) ∙ ap (λ (x : Bool). all_ascii_digits bs && x) (sym (positive e d))
    go more false false e d = refl

is_some_if : (t : Bool) (x : Fraction) → is_some (if t then Some x else None) ≡ t
is_some_if true x = refl
is_some_if false x = refl

and_same : (a b c : Bool) → a ≡ true → (a && b && c) ≡ (b && c)
and_same a b c h = rw h refl

fraction_some : (ds bs : List ℕ) → are_digits ds ≡ true → is_some (written_fraction ds bs) ≡ accepts Slash bs
fraction_some ds bs h =
    is_some_if (are_digits ds && are_digits bs && nat_lt 0 (digits_value 10 bs)) _
    ∙ and_same (are_digits ds) (are_digits bs) (nat_lt 0 (digits_value 10 bs)) h
    ∙ go bs
    ∙ sym (fraction_digits bs)
  where
    go : (bs : List ℕ) → (are_digits bs && nat_lt 0 (digits_value 10 bs)) ≡ (all_ascii_digits bs && nat_lt 0 (digits_value_after 10 0 bs))
    go [] = refl
    go (b ∷ bs) = rw some_byte refl

decimal_some : (whole behind exponent : List ℕ) → are_digits (whole ++ behind) ≡ true → is_some (decimal_form whole behind exponent) ≡ are_digits (without_leading_sign exponent)
decimal_some whole behind exponent h =
    is_some_if (are_digits (whole ++ behind) && are_digits (without_leading_sign exponent)) _
    ∙ ap (λ (x : Bool). x && are_digits (without_leading_sign exponent)) h

no_digits : (t : Bool) (exponent : List ℕ) → is_some (if t then decimal_form [] [] exponent else None) ≡ false
no_digits true exponent = refl
no_digits false exponent = refl

more_digits : (ds : List ℕ) (b : ℕ) → are_digits ds ≡ true → is_ascii_digit b ≡ true → are_digits (ds ++ b ∷ []) ≡ true
more_digits [] b h d = absurd (cc h)
more_digits (c ∷ cs) b h d =
    let all = and_parts (nat_lt 0 (length (c ∷ cs))) (all_ascii_digits (c ∷ cs)) h in
    let one : all_ascii_digits (b ∷ []) ≡ true = rw d refl in
    rw (some_byte c (cs ++ b ∷ [])) (digits_append (c ∷ cs) (b ∷ []) all.1 one)

front_digit : (b : ℕ) (bs : List ℕ) → is_ascii_digit b ≡ true → front (b ∷ bs) ≡ b ∷ front bs
front_digit b bs h = rw (h, one_more (prefix_len is_ascii_digit bs)) refl

rest_digit : (b : ℕ) (bs : List ℕ) → is_ascii_digit b ≡ true → rest (b ∷ bs) ≡ rest bs
rest_digit b bs h = rw (h, one_more (prefix_len is_ascii_digit bs)) refl

front_other : (b : ℕ) (bs : List ℕ) → is_ascii_digit b ≡ false → front (b ∷ bs) ≡ []
front_other b bs h = rw h refl

rest_other : (b : ℕ) (bs : List ℕ) → is_ascii_digit b ≡ false → rest (b ∷ bs) ≡ b ∷ bs
rest_other b bs h = rw h refl

-- behind the digits of a decimal
behind_decimals : (whole behind : List ℕ) (b : ℕ) (bs : List ℕ) → are_digits (whole ++ behind) ≡ true → is_ascii_digit b ≡ false
    → is_some (scan_decimal whole behind (b ∷ bs)) ≡ accepts Decimals (b ∷ bs)
behind_decimals whole behind b bs h d = go (is_exponent_mark b) refl
  where
    go : (t : Bool) → is_exponent_mark b ≡ t → is_some (if t then decimal_form whole behind bs else None) ≡ then_accepts (if t then Some ExponentMark else digit_then b Decimals) bs
    go true e = decimal_some whole behind bs h ∙ sym (mark_digits bs)
    go false e = rw d refl

decimals : (whole behind text : List ℕ) → are_digits (whole ++ behind) ≡ true → is_some (scan_decimal whole (behind ++ front text) (rest text)) ≡ accepts Decimals text
decimals whole behind [] h = rw (append-nil behind) (decimal_some whole behind (codes "0") h)
decimals whole behind (b ∷ bs) h = go (λ more. decimals whole (behind ++ b ∷ []) bs more) (is_ascii_digit b) refl
  where
    go : (are_digits (whole ++ (behind ++ b ∷ [])) ≡ true → is_some (scan_decimal whole ((behind ++ b ∷ []) ++ front bs) (rest bs)) ≡ accepts Decimals bs)
        → (t : Bool) → is_ascii_digit b ≡ t → is_some (scan_decimal whole (behind ++ front (b ∷ bs)) (rest (b ∷ bs))) ≡ accepts Decimals (b ∷ bs)
    go next true d =
        let more : are_digits (whole ++ (behind ++ b ∷ [])) ≡ true = ap are_digits (sym (append_assoc whole behind (b ∷ []))) ∙ more_digits (whole ++ behind) b h d in
        rw (front_digit b bs d, rest_digit b bs d, ← append_assoc behind (b ∷ []) (front bs), mark_apart b d, d) (next more)
    go next false d = rw (front_other b bs d, rest_other b bs d, append-nil behind) (behind_decimals whole behind b bs h d)

-- behind the first digits
behind_digits : (ds : List ℕ) (b : ℕ) (bs : List ℕ) → are_digits ds ≡ true → is_ascii_digit b ≡ false → is_some (scan_from ds (b ∷ bs)) ≡ accepts Integer (b ∷ bs)
behind_digits ds b bs h d = go (is_slash b) (is_point b) (is_exponent_mark b)
  where
    whole : are_digits (ds ++ []) ≡ true
    whole = rw append-nil h

    go : (s p e : Bool)
        → is_some (if s then written_fraction ds bs else (if p then scan_decimal ds (front bs) (rest bs) else (if e then decimal_form ds [] bs else None)))
        ≡ then_accepts (if s then Some Slash else (if p then Some Decimals else (if e then Some ExponentMark else digit_then b Integer))) bs
    go true p e = fraction_some ds bs h
    go false true e = decimals ds [] bs whole
    go false false true = decimal_some ds [] bs whole ∙ sym (mark_digits bs)
    go false false false = rw d refl

integers : (ds text : List ℕ) → are_digits ds ≡ true → is_some (scan_from (ds ++ front text) (rest text)) ≡ accepts Integer text
integers ds [] h = let whole : are_digits (ds ++ []) ≡ true = rw append-nil h in rw (append-nil ds) (decimal_some ds [] (codes "0") whole)
integers ds (b ∷ bs) h = go (λ more. integers (ds ++ b ∷ []) bs more) (is_ascii_digit b) refl
  where
    go : (are_digits (ds ++ b ∷ []) ≡ true → is_some (scan_from ((ds ++ b ∷ []) ++ front bs) (rest bs)) ≡ accepts Integer bs)
        → (t : Bool) → is_ascii_digit b ≡ t → is_some (scan_from (ds ++ front (b ∷ bs)) (rest (b ∷ bs))) ≡ accepts Integer (b ∷ bs)
    go next true d =
        rw (front_digit b bs d, rest_digit b bs d, ← append_assoc ds (b ∷ []) (front bs), slash_apart b d, point_apart b d, mark_apart b d, d)
        (next (more_digits ds b h d))
    go next false d = rw (front_other b bs d, rest_other b bs d, append-nil ds) (behind_digits ds b bs h d)

lone_point : (text : List ℕ) → is_some (scan_decimal [] (front text) (rest text)) ≡ accepts LonePoint text
lone_point [] = refl
lone_point (b ∷ bs) = go (is_ascii_digit b) refl
  where
    go : (t : Bool) → is_ascii_digit b ≡ t → is_some (scan_decimal [] (front (b ∷ bs)) (rest (b ∷ bs))) ≡ accepts LonePoint (b ∷ bs)
    go true d = let one : are_digits (b ∷ []) ≡ true = rw d refl in rw (front_digit b bs d, rest_digit b bs d, d) (decimals [] (b ∷ []) bs one)
    go false d = rw (front_other b bs d, rest_other b bs d, d) (no_digits (is_exponent_mark b) bs)

scans : (text : List ℕ) → is_some (scan text) ≡ accepts Empty text
scans [] = refl
scans (b ∷ bs) = go (is_ascii_digit b) refl
  where
    apart : is_slash b ≡ true → is_point b ≡ false
    apart h = grind (arith, nat_tests)

    other : is_ascii_digit b ≡ false → (s p : Bool) → is_slash b ≡ s → is_point b ≡ p
        → is_some (if s then written_fraction [] bs else (if p then scan_decimal [] (front bs) (rest bs) else (if is_exponent_mark b then decimal_form [] [] bs else None)))
        ≡ then_accepts (if p then Some LonePoint else digit_then b Integer) bs
    other d true true f g = absurd (let e = apart f in cc)
    other d true false f g = rw d refl
    other d false true f g = lone_point bs
    other d false false f g = rw d (no_digits (is_exponent_mark b) bs)

    go : (t : Bool) → is_ascii_digit b ≡ t → is_some (scan (b ∷ bs)) ≡ accepts Empty (b ∷ bs)
    go true d = let one : are_digits (b ∷ []) ≡ true = rw d refl in rw (front_digit b bs d, rest_digit b bs d, point_apart b d, d) (integers (b ∷ []) bs one)
    go false d = rw (front_other b bs d, rest_other b bs d) (other d (is_slash b) (is_point b) refl refl)

some_signed : (negative : Bool) (q : Option Fraction) → is_some (option_map (with_sign negative) q) ≡ is_some q
some_signed negative None = refl
some_signed negative (Some x) = refl

pub unsigned : (text : List ℕ) → is_signed text ≡ false → without_leading_sign text ≡ text
unsigned [] h = refl
unsigned (b ∷ bs) h =
    let minus : (b == 45) ≡ false = grind (arith, nat_tests) in
    let plus : (b == 43) ≡ false = grind (arith, nat_tests) in
    rw (minus, plus) refl

-- A text without a sign is a number text where the parts accept it.
number_text : (text : List ℕ) → is_signed text ≡ false → is_number_text text ≡ accepts Empty text
unfolding is_number_text written
number_text text h =
    some_signed (starts_with_minus text) (written_body (without_leading_sign text))
    ∙ ap (λ (t : List ℕ). is_some (written_body t)) (unsigned text h)
    ∙ ap is_some (written_body-scan text)
    ∙ scans text

-- ---- the longest number text at the front

part_append : (p : NumberPart) (xs ys : List ℕ) → part_behind p (xs ++ ys) ≡ option_and_then (λ q. part_behind q ys) (part_behind p xs)
part_append p [] ys = refl
part_append p (x ∷ xs) ys =
    elim (next_part p x) as (λ o. option_and_then (λ q. part_behind q (xs ++ ys)) o ≡ option_and_then (λ q. part_behind q ys) (option_and_then (λ q. part_behind q xs) o))
    [ None ↦ refl | Some q ↦ part_append q xs ys ]

some_part : (q : Option NumberPart) → option_and_then (λ r. Some r) q ≡ q
some_part None = refl
some_part (Some r) = refl

-- the part behind one more byte
pub part_more : (text : List ℕ) (i d : ℕ) (part : NumberPart) (next : Option NumberPart) → i < length text → part_behind Empty (take i text) ≡ Some part
    → next ≡ next_part part (get_or text i d) → part_behind Empty (take (i + 1) text) ≡ next
part_more text i d part next lt e f =
    ap (part_behind Empty) (take_more text i d lt)
    ∙ part_append Empty (take i text) (get_or text i d ∷ [])
    ∙ ap (option_and_then (λ q. part_behind q (get_or text i d ∷ []))) e
    ∙ some_part (next_part part (get_or text i d))
    ∙ sym f

pub unsigned_front : (text : List ℕ) (n : ℕ) → is_signed text ≡ false → is_signed (take n text) ≡ false
unsigned_front text zero h = refl
unsigned_front [] (suc n) h = refl
unsigned_front (b ∷ bs) (suc n) h = h

front_text : (text : List ℕ) (n : ℕ) (q : Option NumberPart) → is_signed text ≡ false → part_behind Empty (take n text) ≡ q → is_number_text (take n text) ≡ ends q
front_text text n q h e = number_text (take n text) (unsigned_front text n h) ∙ ap ends e

abbrev pub longest_below : List ℕ → ℕ → ℕ
longest_below text n = greatest (λ k. is_number_text (take k text)) n

greatest_next : (p : ℕ → Bool) (n : ℕ) (t : Bool) → p (n + 1) ≡ t → greatest p (n + 1) ≡ (if t then n + 1 else greatest p n)
greatest_next p n t e =
    let s : n + 1 ≡ suc n = add-one n in
    ap (greatest p) s ∙ ap (λ (x : Bool). if x then suc n else greatest p n) (ap p (sym s) ∙ e) ∙ ap (λ (k : ℕ). if t then k else greatest p n) (sym s)

pub longer : (text : List ℕ) (i : ℕ) (part : NumberPart) → is_signed text ≡ false → part_behind Empty (take (i + 1) text) ≡ Some part → is_whole part ≡ true
    → i + 1 ≡ longest_below text (i + 1)
longer text i part h e w = sym (greatest_next (λ k. is_number_text (take k text)) i true (front_text text (i + 1) (Some part) h e ∙ w))

pub not_longer : (text : List ℕ) (i : ℕ) (part : NumberPart) (n : ℕ) → is_signed text ≡ false → part_behind Empty (take (i + 1) text) ≡ Some part → is_whole part ≡ false
    → n ≡ longest_below text i → n ≡ longest_below text (i + 1)
not_longer text i part n h e w m = m ∙ sym (greatest_next (λ k. is_number_text (take k text)) i false (front_text text (i + 1) (Some part) h e ∙ w))

greatest_stays : (p : ℕ → Bool) (i k : ℕ) → ((n : ℕ) → i < n → p n ≡ false) → greatest p (k + i) ≡ greatest p i
greatest_stays p i zero h = let e : 0 + i ≡ i = omega arith in ap (greatest p) e
greatest_stays p i (suc k) h =
    let e : suc k + i ≡ (k + i) + 1 = omega arith in
    ap (greatest p) e ∙ greatest_next p (k + i) false (h ((k + i) + 1) (omega arith)) ∙ greatest_stays p i k h

-- no number text goes on behind a byte that none can have there
dead_front : (text : List ℕ) (i n : ℕ) → part_behind Empty (take (i + 1) text) ≡ None → i < n → part_behind Empty (take n text) ≡ None
dead_front text i n e lt =
    let cut : take n text ≡ take (i + 1) text ++ drop (i + 1) (take n text) =
    sym (take-append-drop (i + 1) (take n text)) ∙ ap (λ (x : List ℕ). x ++ drop (i + 1) (take n text)) (take-take (i + 1) n text (omega arith)) in
    ap (part_behind Empty) cut ∙ part_append Empty (take (i + 1) text) (drop (i + 1) (take n text)) ∙ ap (option_and_then (λ q. part_behind q (drop (i + 1) (take n text)))) e

pub stopped : (text : List ℕ) (i n : ℕ) → i < length text → is_signed text ≡ false → part_behind Empty (take (i + 1) text) ≡ None → n ≡ longest_below text i → n ≡ number_len text
unfolding number_len
stopped text i n lt h e m =
    let size : (length text - i) + i ≡ length text = omega arith in
    m
    ∙ sym (greatest_stays (λ k. is_number_text (take k text)) i (length text - i) (λ k above. front_text text k None h (dead_front text i k e above)))
    ∙ ap (longest_below text) size

pub at_the_end : (text : List ℕ) (i n : ℕ) → length text ≡ i → n ≡ longest_below text i → n ≡ number_len text
unfolding number_len
at_the_end text i n e m = m ∙ ap (longest_below text) (sym e)

-- ---- what a number text consists of

high_digit : (b : ℕ) → 128 ≤ b → is_ascii_digit b ≡ false
high_digit b h = grind (arith, nat_tests)

high : (b c : ℕ) → 128 ≤ b → c < 128 → (b == c) ≡ false
high b c h l = grind (arith, nat_tests)

-- no number text has a byte that isn't ASCII
high_stops : (p : NumberPart) (b : ℕ) → 128 ≤ b → next_part p b ≡ None
high_stops Empty b h = rw (high b 46 h (lit< tt), high_digit b h) refl
high_stops Integer b h = rw (high b 47 h (lit< tt), high b 46 h (lit< tt), high b 101 h (lit< tt), high b 69 h (lit< tt), high_digit b h) refl
high_stops Decimals b h = rw (high b 101 h (lit< tt), high b 69 h (lit< tt), high_digit b h) refl
high_stops ExponentMark b h = rw (high b 45 h (lit< tt), high b 43 h (lit< tt), high_digit b h) refl
high_stops Slash b h = rw (high b 48 h (lit< tt), high_digit b h) refl
high_stops p b h = rw (high_digit b h) refl

pub part_is_ascii : (p q : NumberPart) (b : ℕ) → Some q ≡ next_part p b → b < 128
part_is_ascii p q b e =
    let low : 128 ≤ b → ⊥ = λ h. let none : Some q ≡ None = e ∙ high_stops p b h in absurd (cc) in
    omega (arith, low)

pub last_ascii : (text : List ℕ) (i n : ℕ) (p q : NumberPart) → n ≡ i + 1 → Some q ≡ next_part p (get_or text i 0) → get_or text (n - 1) 0 < 128
last_ascii text i n p q e f = let same : n - 1 ≡ i = omega arith in rw same (part_is_ascii p q (get_or text i 0) f)

-- ---- where a number begins, one is found

greatest_least : (p : ℕ → Bool) (n k : ℕ) → k ≤ n → 0 < k → p k ≡ true → 1 ≤ greatest p n
greatest_least p zero k le some h = absurd (omega arith)
greatest_least p (suc n) k le some h = go (p (suc n)) refl (λ le. greatest_least p n k le some h)
  where
    go : (t : Bool) → p (suc n) ≡ t → (k ≤ n → 1 ≤ greatest p n) → 1 ≤ (if t then suc n else greatest p n)
    go true e more = omega arith
    go false e more =
        let other : k ≡ suc n → ⊥ = λ same. let c : true ≡ false = sym h ∙ ap p same ∙ e in absurd (cc) in
        more (omega (arith, other))

digit_unsigned : (b : ℕ) → is_ascii_digit b ≡ true → ((b == 45) || (b == 43)) ≡ false
digit_unsigned b h = grind (arith, nat_tests)

point_is : (b : ℕ) → (b == 46) ≡ true → b ≡ 46
point_is b h = grind (arith, nat_tests)

pub unsigned_number : (b : ℕ) (bs : List ℕ) → begins_number b bs ≡ true → is_signed (b ∷ bs) ≡ false
unsigned_number b bs h = go (is_ascii_digit b) (b == 46) refl refl h
  where
    go : (d p : Bool) → is_ascii_digit b ≡ d → (b == 46) ≡ p → (d || (p && starts_by is_ascii_digit bs)) ≡ true → is_signed (b ∷ bs) ≡ false
    go true p e f h = digit_unsigned b e
    go false true e f h = let c = point_is b f in rw c refl
    go false false e f h = absurd (cc h)

digit_number : (b : ℕ) (bs : List ℕ) → is_ascii_digit b ≡ true → is_number_text (take 1 (b ∷ bs)) ≡ true
digit_number b bs h = number_text (b ∷ []) (digit_unsigned b h) ∙ rw (point_apart b h, h) refl

point_number : (bs : List ℕ) → starts_by is_ascii_digit bs ≡ true → is_number_text (take 2 (46 ∷ bs)) ≡ true
point_number [] h = absurd (cc h)
point_number (c ∷ cs) h = number_text (46 ∷ c ∷ []) refl ∙ rw h refl

pub some_number : (b : ℕ) (bs : List ℕ) → begins_number b bs ≡ true → 1 ≤ number_len (b ∷ bs)
unfolding number_len
some_number b bs h = go (is_ascii_digit b) (b == 46) refl refl h
  where
    one : 1 ≤ length (b ∷ bs)
    one = omega arith

    two : (xs : List ℕ) → starts_by is_ascii_digit xs ≡ true → 2 ≤ length (b ∷ xs)
    two [] h = absurd (cc h)
    two (x ∷ xs) h = omega arith

    go : (d p : Bool) → is_ascii_digit b ≡ d → (b == 46) ≡ p → (d || (p && starts_by is_ascii_digit bs)) ≡ true → 1 ≤ longest_below (b ∷ bs) (length (b ∷ bs))
    go true p e f h = greatest_least (λ k. is_number_text (take k (b ∷ bs))) (length (b ∷ bs)) 1 one (omega arith) (digit_number b bs e)
    go false true e f h =
        let c = point_is b f in
        greatest_least (λ k. is_number_text (take k (b ∷ bs))) (length (b ∷ bs)) 2 (two bs h) (omega arith) (rw c (point_number bs h))
    go false false e f h = absurd (cc h)
