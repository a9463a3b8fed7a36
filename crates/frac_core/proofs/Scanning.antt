-- The definition of number text cuts a text at its first `/`, `e` and `.`; read from left to right it gives the same.
use Rattle.std.proofs.Common.{◌≡◌, ◌∙◌, ℕ, ◌+◌, ◌++◌, ◌==◌, ◌||◌, suc, Bool, true, false, cond, List, [], ◌∷◌, Option, None, codes, length, take, drop, arith, refl, sym, ap, nat_lt, if◌then◌else◌}
use Rattle.std.specs.List.{before_first, after_first, list_any, position_or_len, prefix_len}
use Rattle.std.specs.Char.{is_ascii_digit}
use Rattle.std.specs.Str.{all_ascii_digits}
use Rattle.std.specs.Str.Parse.{without_leading_sign}
use Rattle.std.proofs.lemmas.Bool.Decides.{nat_tests}
use Rattle.std.proofs.lemmas.Bool.{false≢true, true≢false, and_parts}
use Rattle.std.proofs.lemmas.List.{append-nil, append_assoc, take-append-drop}
use mathlib.Core.Bool.{and-false}
use Rattle.rational_laws.specs.Fraction.{Fraction}
use Rattle.frac_core.specs.NumberText.{are_digits, decimal_form, is_exponent_mark, is_point, is_slash, written_body, written_decimal, written_fraction}
use Rattle.frac_core.specs.NumberReading.{front, rest, scan, scan_decimal, scan_from}

-- ---- the first byte of a kind

pub one_more : (n : ℕ) → 1 + n ≡ suc n
one_more n = omega arith

-- no digit is of this kind
abbrev pub IsApart : (ℕ → Bool) → Type 0
IsApart p = (c : ℕ) → is_ascii_digit c ≡ true → p c ≡ false

pub slash_apart : IsApart is_slash
slash_apart c h = grind (arith, nat_tests)

pub point_apart : IsApart is_point
point_apart c h = grind (arith, nat_tests)

pub mark_apart : IsApart is_exponent_mark
mark_apart c h = grind (arith, nat_tests)

before-here : (p : ℕ → Bool) (b : ℕ) (xs : List ℕ) → p b ≡ true → before_first p (b ∷ xs) ≡ []
before-here p b xs h = rw h refl

after-here : (p : ℕ → Bool) (b : ℕ) (xs : List ℕ) → p b ≡ true → after_first p (b ∷ xs) ≡ xs
after-here p b xs h = rw h refl

before-next : (p : ℕ → Bool) (b : ℕ) (xs : List ℕ) → p b ≡ false → before_first p (b ∷ xs) ≡ b ∷ before_first p xs
before-next p b xs h = rw (h, one_more (position_or_len p xs)) refl

after-next : (p : ℕ → Bool) (b : ℕ) (xs : List ℕ) → p b ≡ false → after_first p (b ∷ xs) ≡ after_first p xs
after-next p b xs h =
    let size : 1 + position_or_len p xs + 1 ≡ suc (position_or_len p xs + 1) = omega arith in
    rw (h, size) refl

before-digits : (p : ℕ → Bool) → IsApart p → (ds xs : List ℕ) → all_ascii_digits ds ≡ true → before_first p (ds ++ xs) ≡ ds ++ before_first p xs
before-digits p apart [] xs h = refl
before-digits p apart (d ∷ ds) xs h =
    let parts = and_parts (is_ascii_digit d) (all_ascii_digits ds) h in
    before-next p d (ds ++ xs) (apart d parts.0) ∙ ap (λ (ys : List ℕ). d ∷ ys) (before-digits p apart ds xs parts.1)

after-digits : (p : ℕ → Bool) → IsApart p → (ds xs : List ℕ) → all_ascii_digits ds ≡ true → after_first p (ds ++ xs) ≡ after_first p xs
after-digits p apart [] xs h = refl
after-digits p apart (d ∷ ds) xs h =
    let parts = and_parts (is_ascii_digit d) (all_ascii_digits ds) h in
    after-next p d (ds ++ xs) (apart d parts.0) ∙ after-digits p apart ds xs parts.1

any-digits : (p : ℕ → Bool) → IsApart p → (ds xs : List ℕ) → all_ascii_digits ds ≡ true → list_any p (ds ++ xs) ≡ list_any p xs
any-digits p apart [] xs h = refl
any-digits p apart (d ∷ ds) xs h =
    let parts = and_parts (is_ascii_digit d) (all_ascii_digits ds) h in
    rw (apart d parts.0) (any-digits p apart ds xs parts.1)

-- ---- digits at the front

pub not_all : (ds xs : List ℕ) (b : ℕ) → is_ascii_digit b ≡ false → all_ascii_digits (ds ++ b ∷ xs) ≡ false
not_all [] xs b h = rw h refl
not_all (d ∷ ds) xs b h = rw (not_all ds xs b h) (and-false (is_ascii_digit d))

pub all-front : (text : List ℕ) → all_ascii_digits (front text) ≡ true
all-front [] = refl
all-front (c ∷ cs) = step (all-front cs) (is_ascii_digit c) refl
  where
    step : all_ascii_digits (front cs) ≡ true → (t : Bool) → is_ascii_digit c ≡ t → all_ascii_digits (take (cond t (1 + prefix_len is_ascii_digit cs) 0) (c ∷ cs)) ≡ true
    step more true h = rw (one_more (prefix_len is_ascii_digit cs), h) more
    step more false h = refl

pub front-rest : (text : List ℕ) → front text ++ rest text ≡ text
front-rest text = take-append-drop (prefix_len is_ascii_digit text) text

-- what follows the digits does not begin with a digit
abbrev pub IsPast : List ℕ → Type 0
IsPast [] = Unit {0}
IsPast (b ∷ xs) = is_ascii_digit b ≡ false

pub past-rest : (text : List ℕ) → IsPast (rest text)
past-rest [] = tt
past-rest (c ∷ cs) = step (past-rest cs) (is_ascii_digit c) refl
  where
    step : IsPast (rest cs) → (t : Bool) → is_ascii_digit c ≡ t → IsPast (drop (cond t (1 + prefix_len is_ascii_digit cs) 0) (c ∷ cs))
    step more true h = rw (one_more (prefix_len is_ascii_digit cs)) more
    step more false h = h

-- ---- no number text

-- a byte that is no digit makes no fraction
no_fraction : (ds xs ys : List ℕ) (b : ℕ) → is_ascii_digit b ≡ false → written_fraction (ds ++ b ∷ xs) ys ≡ None
no_fraction ds xs ys b h = rw (not_all ds xs b h, and-false (nat_lt 0 (length (ds ++ b ∷ xs)))) refl

no_whole : (ds xs behind exponent : List ℕ) (b : ℕ) → is_ascii_digit b ≡ false → decimal_form (ds ++ b ∷ xs) behind exponent ≡ None
no_whole ds xs behind exponent b h = rw (append_assoc ds (b ∷ xs) behind, not_all ds (xs ++ behind) b h, and-false (nat_lt 0 (length (ds ++ b ∷ (xs ++ behind))))) refl

no_behind : (whole ds xs exponent : List ℕ) (b : ℕ) → is_ascii_digit b ≡ false → decimal_form whole (ds ++ b ∷ xs) exponent ≡ None
no_behind whole ds xs exponent b h = rw (← append_assoc whole ds (b ∷ xs), not_all (whole ++ ds) xs b h, and-false (nat_lt 0 (length ((whole ++ ds) ++ b ∷ xs)))) refl

slash_among : (text : List ℕ) → list_any is_slash text ≡ true → all_ascii_digits text ≡ false
slash_among text h = by (all_ascii_digits text) refl
  where
    by : (t : Bool) → all_ascii_digits text ≡ t → t ≡ false
    by true e = let none = any-digits is_slash slash_apart text [] e in absurd (true≢false (sym h ∙ ap (list_any is_slash) (sym (append-nil text)) ∙ none))
    by false e = refl

slash_behind_sign : (text : List ℕ) → list_any is_slash text ≡ true → list_any is_slash (without_leading_sign text) ≡ true
slash_behind_sign [] h = absurd (false≢true h)
slash_behind_sign (c ∷ cs) h = minus (c == 45) refl
  where
    plus : (t : Bool) → (c == 43) ≡ t → list_any is_slash (drop (cond t 1 0) (c ∷ cs)) ≡ true
    plus true e = let other : is_slash c ≡ false = grind (arith, nat_tests) in rw other at h
    plus false e = h

    minus : (t : Bool) → (c == 45) ≡ t → list_any is_slash (cond t cs (drop (cond (c == 43) 1 0) (c ∷ cs))) ≡ true
    minus true e = let other : is_slash c ≡ false = grind (arith, nat_tests) in rw other at h
    minus false e = plus (c == 43) refl

no_exponent : (whole behind text : List ℕ) → list_any is_slash text ≡ true → decimal_form whole behind text ≡ None
no_exponent whole behind text h =
    rw (slash_among (without_leading_sign text) (slash_behind_sign text h), and-false (nat_lt 0 (length (without_leading_sign text))), and-false (are_digits (whole ++ behind))) refl

-- ---- the two readings agree

-- the text of the exponent, `0` where there is none
abbrev exponent_of : List ℕ → List ℕ
exponent_of text = if list_any is_exponent_mark text then after_first is_exponent_mark text else codes "0"

exponent-digits : (ds xs : List ℕ) → all_ascii_digits ds ≡ true → exponent_of (ds ++ xs) ≡ exponent_of xs
exponent-digits ds xs h = rw (any-digits is_exponent_mark mark_apart ds xs h, after-digits is_exponent_mark mark_apart ds xs h) refl

exponent-here : (b : ℕ) (xs : List ℕ) → is_exponent_mark b ≡ true → exponent_of (b ∷ xs) ≡ xs
exponent-here b xs h = rw h refl

exponent-next : (b : ℕ) (xs : List ℕ) → is_exponent_mark b ≡ false → exponent_of (b ∷ xs) ≡ exponent_of xs
exponent-next b xs h = rw (after-next is_exponent_mark b xs h, h) refl

-- a decimal behind its point
behind_point : (ds bs xs : List ℕ) → all_ascii_digits bs ≡ true → IsPast xs
    → decimal_form ds (before_first is_exponent_mark (bs ++ xs)) (exponent_of (bs ++ xs)) ≡ scan_decimal ds bs xs
behind_point ds bs [] digits past =
    rw (exponent-digits bs [] digits, before-digits is_exponent_mark mark_apart bs [] digits, append-nil bs) refl
behind_point ds bs (b ∷ xs) digits past =
    rw (exponent-digits bs (b ∷ xs) digits, before-digits is_exponent_mark mark_apart bs (b ∷ xs) digits) (by (is_exponent_mark b) refl)
  where
    by : (t : Bool) → is_exponent_mark b ≡ t
        → decimal_form ds (bs ++ before_first is_exponent_mark (b ∷ xs)) (exponent_of (b ∷ xs)) ≡ (if t then decimal_form ds bs xs else None)
    by true h = rw (before-here is_exponent_mark b xs h, exponent-here b xs h, append-nil bs) refl
    by false h = rw (before-next is_exponent_mark b xs h) (no_behind ds bs (before_first is_exponent_mark xs) (exponent_of (b ∷ xs)) b past)

-- the digits before a point, in the text before the exponent
abbrev cut_at_point : List ℕ → List ℕ → Option Fraction
cut_at_point mantissa exponent = decimal_form (before_first is_point mantissa) (after_first is_point mantissa) exponent

before_point : (ds xs exponent : List ℕ) → all_ascii_digits ds ≡ true
    → cut_at_point (ds ++ xs) exponent ≡ decimal_form (ds ++ before_first is_point xs) (after_first is_point xs) exponent
before_point ds xs exponent h = rw (before-digits is_point point_apart ds xs h, after-digits is_point point_apart ds xs h) refl

no_point : (ds exponent : List ℕ) → decimal_form (ds ++ before_first is_point []) (after_first is_point []) exponent ≡ decimal_form ds [] exponent
no_point ds exponent = ap (λ (whole : List ℕ). decimal_form whole [] exponent) (append-nil ds)

-- a decimal, where no slash follows its first digits
decimal_by_digits : (ds xs : List ℕ) (b : ℕ) → all_ascii_digits ds ≡ true → is_ascii_digit b ≡ false → is_slash b ≡ false → written_decimal (ds ++ b ∷ xs) ≡ scan_from ds (b ∷ xs)
decimal_by_digits ds xs b digits past slash =
    rw (slash, exponent-digits ds (b ∷ xs) digits, before-digits is_exponent_mark mark_apart ds (b ∷ xs) digits, before_point ds (before_first is_exponent_mark (b ∷ xs)) (exponent_of (b ∷ xs)) digits)
    (mark (is_exponent_mark b) refl)
  where
    point : (t : Bool) → is_point b ≡ t
        → decimal_form (ds ++ before_first is_point (b ∷ before_first is_exponent_mark xs)) (after_first is_point (b ∷ before_first is_exponent_mark xs)) (exponent_of xs)
        ≡ (if t then scan_decimal ds (front xs) (rest xs) else None)
    point true h =
        let behind = rw (front-rest xs) at (behind_point ds (front xs) (rest xs) (all-front xs) (past-rest xs)) in
        rw (before-here is_point b (before_first is_exponent_mark xs) h, after-here is_point b (before_first is_exponent_mark xs) h, append-nil ds) behind
    point false h =
        rw (before-next is_point b (before_first is_exponent_mark xs) h)
        (no_whole ds (before_first is_point (before_first is_exponent_mark xs)) (after_first is_point (b ∷ before_first is_exponent_mark xs)) (exponent_of xs) b past)

    mark : (t : Bool) → is_exponent_mark b ≡ t
        → decimal_form (ds ++ before_first is_point (before_first is_exponent_mark (b ∷ xs))) (after_first is_point (before_first is_exponent_mark (b ∷ xs))) (exponent_of (b ∷ xs))
        ≡ (if is_point b then scan_decimal ds (front xs) (rest xs) else if t then decimal_form ds [] xs else None)
    mark true h =
        let apart : is_point b ≡ false = grind (arith, nat_tests) in
        rw (before-here is_exponent_mark b xs h, exponent-here b xs h, apart) (no_point ds xs)
    mark false h = rw (before-next is_exponent_mark b xs h, exponent-next b xs h) (point (is_point b) refl)

-- no number text has a slash behind another byte that is no digit
no_slash_behind : (ds xs : List ℕ) (b : ℕ) → is_slash b ≡ false → list_any is_slash xs ≡ true → scan_from ds (b ∷ xs) ≡ None
no_slash_behind ds xs b slash among = rw slash (by (is_point b))
  where
    in_decimal : (behind text : List ℕ) → list_any is_slash text ≡ true → scan_decimal ds behind text ≡ None
    in_decimal behind [] h = absurd (false≢true h)
    in_decimal behind (c ∷ cs) h = mark (is_exponent_mark c) refl
      where
        mark : (t : Bool) → is_exponent_mark c ≡ t → (if t then decimal_form ds behind cs else None) ≡ None
        mark true e = let other : is_slash c ≡ false = grind (arith, nat_tests) in no_exponent ds behind cs (rw other at h)
        mark false e = refl

    by : (t : Bool) → (if t then scan_decimal ds (front xs) (rest xs) else scan_decimal ds [] (b ∷ xs)) ≡ None
    by true = in_decimal (front xs) (rest xs) (sym (any-digits is_slash slash_apart (front xs) (rest xs) (all-front xs)) ∙ ap (list_any is_slash) (front-rest xs) ∙ among)
    by false = in_decimal [] (b ∷ xs) (rw slash among)

pub by_first_digits : (ds xs : List ℕ) → all_ascii_digits ds ≡ true → IsPast xs → written_body (ds ++ xs) ≡ scan_from ds xs
unfolding written_body
by_first_digits ds [] digits past =
    rw (any-digits is_slash slash_apart ds [] digits, exponent-digits ds [] digits, before-digits is_exponent_mark mark_apart ds [] digits, before_point ds [] (codes "0") digits)
    (no_point ds (codes "0"))
by_first_digits ds (b ∷ xs) digits past =
    rw (any-digits is_slash slash_apart ds (b ∷ xs) digits, before-digits is_slash slash_apart ds (b ∷ xs) digits, after-digits is_slash slash_apart ds (b ∷ xs) digits)
    (slash (is_slash b) refl)
  where
    behind : is_slash b ≡ false → (t : Bool) → list_any is_slash xs ≡ t
        → (if t then written_fraction (ds ++ before_first is_slash (b ∷ xs)) (after_first is_slash (b ∷ xs)) else written_decimal (ds ++ b ∷ xs)) ≡ scan_from ds (b ∷ xs)
    behind h true among =
        rw (before-next is_slash b xs h) (no_fraction ds (before_first is_slash xs) (after_first is_slash (b ∷ xs)) b past ∙ sym (no_slash_behind ds xs b h among))
    behind h false among = decimal_by_digits ds xs b digits past h

    slash : (t : Bool) → is_slash b ≡ t
        → (if t || list_any is_slash xs then written_fraction (ds ++ before_first is_slash (b ∷ xs)) (after_first is_slash (b ∷ xs)) else written_decimal (ds ++ b ∷ xs)) ≡ scan_from ds (b ∷ xs)
    slash true h = rw (before-here is_slash b xs h, after-here is_slash b xs h, append-nil ds, h) refl
    slash false h = behind h (list_any is_slash xs) refl

-- the two numbers of a text without its sign, as it is read from left to right
pub written_body-scan : (text : List ℕ) → written_body text ≡ scan text
written_body-scan text = ap written_body (sym (front-rest text)) ∙ by_first_digits (front text) (rest text) (all-front text) (past-rest text)
