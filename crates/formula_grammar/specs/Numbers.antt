-- Stated. The number at the front of a text.
use Rattle.std.specs.Prelude.{ℕ, zero, suc, ◌==◌, ◌||◌, Bool, true, false, List, []}
use Rattle.std.specs.Prelude.{◌∷◌, Option, Some, None, option_and_then, bytes_eq, codes, length, take, if◌then◌else◌}
use Rattle.std.specs.Char.{is_ascii_digit}
use Rattle.std.specs.List.{list_all}
use Rattle.frac_core.specs.NumberText.{is_exponent_mark, is_number_text, is_point, is_slash, is_zero_digit}
use Rattle.formula_grammar.specs.Magnitudes.{magnitude_of}
use Rattle.formula_grammar.specs.Words.{Whole, Zero, Unity, Longer, Numeral, Digits, Written}
pub use Rattle.formula_grammar.specs.declared.number.NumberPart.{NumberPart}
pub use Rattle.formula_grammar.specs.declared.number.NumberPart.TheVariants.{Empty, Integer, LonePoint, Decimals, ExponentMark}
pub use Rattle.formula_grammar.specs.declared.number.NumberPart.TheVariants.{ExponentSign, Exponent, Slash, Denominator}

-- a sign stands in front
abbrev pub is_signed : List ℕ → Bool
is_signed [] = false
is_signed (b ∷ bs) = (b == 45) || (b == 43)

-- the greatest number up to a bound that passes a test, or 0
abbrev pub greatest : (ℕ → Bool) → ℕ → ℕ
greatest p zero = 0
greatest p (suc n) = if p (suc n) then suc n else greatest p n

-- how many bytes the longest number text at the front of a text has
unfoldable pub number_len : List ℕ → ℕ
number_len text = greatest (λ n. is_number_text (take n text)) (length text)

-- what digits are as a token
unfoldable pub whole_of : List ℕ → Whole
whole_of digits =
    if bytes_eq digits (codes "0") then Zero
    else if bytes_eq digits (codes "1") then Unity
    else Longer (magnitude_of digits)

-- what a number text is as a token
unfoldable pub numeral_of : List ℕ → Numeral
numeral_of number = if list_all is_ascii_digit number then Digits (whole_of number) else Written (magnitude_of number)

-- ---- a number text byte by byte

-- a digit leads to the next part
abbrev pub digit_then : ℕ → NumberPart → Option NumberPart
digit_then b next = if is_ascii_digit b then Some next else None

-- the part of a number text that a byte leads to, or none where it can't stand there
abbrev pub next_part : NumberPart → ℕ → Option NumberPart
next_part Empty b = if is_point b then Some LonePoint else digit_then b Integer
next_part Integer b =
    if is_slash b then Some Slash
    else if is_point b then Some Decimals
    else if is_exponent_mark b then Some ExponentMark
    else digit_then b Integer
next_part LonePoint b = digit_then b Decimals
next_part Decimals b = if is_exponent_mark b then Some ExponentMark else digit_then b Decimals
next_part ExponentMark b = if (b == 45) || (b == 43) then Some ExponentSign else digit_then b Exponent
next_part ExponentSign b = digit_then b Exponent
next_part Exponent b = digit_then b Exponent
next_part Slash b = if is_zero_digit b then Some Slash else digit_then b Denominator
next_part Denominator b = digit_then b Denominator

-- a number may end there
abbrev pub is_whole : NumberPart → Bool
is_whole Integer = true
is_whole Decimals = true
is_whole Exponent = true
is_whole Denominator = true
is_whole _ = false

-- the part behind some bytes
abbrev pub part_behind : NumberPart → List ℕ → Option NumberPart
part_behind p [] = Some p
part_behind p (b ∷ bs) = option_and_then (λ q. part_behind q bs) (next_part p b)
