-- Stated. The tokens of a text.
use Rattle.std.specs.Prelude.{ℕ, zero, suc, ◌+◌, ◌-◌, ◌==◌, ◌&&◌, ◌||◌, Bool, false, nat_le, bytes_eq}
use Rattle.std.specs.Prelude.{codes, List, [], ◌∷◌, Option, Some, None, length, take, drop, position, if◌then◌else◌}
use Rattle.std.specs.List.{prefix_len}
use Rattle.std.specs.Char.{is_ascii_digit}
use Rattle.formula_grammar.specs.Words.{Plus, Minus, Kind, Name, FactorWord, QssWord, ArithWord, OffsetWord, Number, Signed, Tilde}
use Rattle.formula_grammar.specs.Words.{Star, Colon, Caret, Open, Close, Comma, Point, End, Stray, Token}
pub use Rattle.formula_grammar.specs.declared.lexer.Lexeme.{Lexeme}
use Rattle.formula_grammar.specs.Numbers.{number_len, numeral_of}

-- a space, a tab or a line end
abbrev pub is_blank : ℕ → Bool
is_blank b = (b == 32) || (b == 9) || (b == 10) || (b == 13)

-- an ASCII letter
abbrev pub is_letter : ℕ → Bool
is_letter b = (nat_le 65 b && nat_le b 90) || (nat_le 97 b && nat_le b 122)

-- a letter, a digit, `.` or `_`
abbrev pub goes_on : ℕ → Bool
goes_on b = is_letter b || is_ascii_digit b || (b == 46) || (b == 95)

-- what may follow the `.` that a name starts with: a letter, `.` or `_`
abbrev pub follows_point : ℕ → Bool
follows_point b = is_letter b || (b == 46) || (b == 95)

-- the first byte passes
abbrev pub starts_by : (ℕ → Bool) → List ℕ → Bool
starts_by p [] = false
starts_by p (b ∷ bs) = p b

-- a name begins with this byte before these bytes: a letter, or `.` and what may follow it
abbrev pub begins_name : ℕ → List ℕ → Bool
begins_name b bs = is_letter b || ((b == 46) && starts_by follows_point bs)

-- a number does: a digit, or `.` and a digit
abbrev pub begins_number : ℕ → List ℕ → Bool
begins_number b bs = is_ascii_digit b || ((b == 46) && starts_by is_ascii_digit bs)

-- the first byte that isn't blank is an open parenthesis
abbrev pub opens : List ℕ → Bool
opens [] = false
opens (b ∷ bs) = if is_blank b then opens bs else (b == 40)

-- a name by its place, its text and what follows: `factor`, `qss`, `I` and `offset` are words before an open parenthesis
unfoldable pub name_or_word : ℕ → List ℕ → List ℕ → Kind
name_or_word at name rest =
    if bytes_eq name (codes "factor") && opens rest then FactorWord
    else if bytes_eq name (codes "qss") && opens rest then QssWord
    else if bytes_eq name (codes "I") && opens rest then ArithWord
    else if bytes_eq name (codes "offset") && opens rest then OffsetWord
    else Name (record { start = at; len = length name })

-- what follows a backtick: a name up to the next one
abbrev pub quoted_to : ℕ → Option ℕ → Lexeme
quoted_to at None = record { kind = Stray; len = 1 }
quoted_to at (Some n) = record { kind = Name (record { start = at + 1; len = n }); len = n + 2 }

-- a backtick
abbrev pub is_backtick : ℕ → Bool
is_backtick b = b == 96

-- the token of a byte that begins no name and no number
abbrev pub mark_of : ℕ → Kind
mark_of b =
    if b == 43 then Signed Plus
    else if b == 45 then Signed Minus
    else if b == 126 then Tilde
    else if b == 42 then Star
    else if b == 58 then Colon
    else if b == 94 then Caret
    else if b == 40 then Open
    else if b == 41 then Close
    else if b == 44 then Comma
    else if b == 46 then Point
    else Stray

-- the name of the first n bytes, or the word that they are
abbrev pub name_lexeme : ℕ → ℕ → List ℕ → Lexeme
name_lexeme at n text = record { kind = name_or_word at (take n text) (drop n text); len = n }

-- the number of the first n bytes
abbrev pub number_lexeme : ℕ → List ℕ → Lexeme
number_lexeme n text = record { kind = Number (numeral_of (take n text)); len = n }

-- the token at a place, by its first byte, which isn't blank, and the bytes behind
abbrev pub lexeme : ℕ → ℕ → List ℕ → Lexeme
lexeme at b bs =
    if begins_name b bs then name_lexeme at (prefix_len goes_on (b ∷ bs)) (b ∷ bs)
    else if begins_number b bs then number_lexeme (number_len (b ∷ bs)) (b ∷ bs)
    else if is_backtick b then quoted_to at (position is_backtick bs)
    else record { kind = mark_of b; len = 1 }

-- the tokens from an offset on, behind some bytes that are passed over; the end of the text is a token
abbrev pub tokens_from : ℕ → ℕ → List ℕ → List Token
tokens_from at passed [] = record { kind = End; at = at } ∷ []
tokens_from at (suc passed) (b ∷ bs) = tokens_from (at + 1) passed bs
tokens_from at zero (b ∷ bs) =
    if is_blank b then tokens_from (at + 1) 0 bs
    else record { kind = (lexeme at b bs).kind; at = at } ∷ tokens_from (at + 1) ((lexeme at b bs).len - 1) bs

-- the tokens of a text
unfoldable pub tokens : List ℕ → List Token
tokens text = tokens_from 0 0 text
