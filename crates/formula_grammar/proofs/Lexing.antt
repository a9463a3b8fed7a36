-- The tokens of a text, one at a time.
use Rattle.std.proofs.Common.{ne_eqb, ◌≡◌, ◌<◌, ◌≤◌, ◌+◌, ◌-◌, ◌++◌, ◌∷◌, [], ℕ, zero, suc, true, false, List, length}
use Rattle.std.proofs.Common.{take, drop, drop-cons, get_or, get_or-drop, subst, position, slice_range, add-one, refl, sym, ◌∙◌, ap, append_assoc, arith, length-drop}
use Rattle.std.proofs.lemmas.List.{drop-drop, take_all}
use Rattle.std.specs.List.{prefix_len}
use Rattle.std.specs.Str.{IsCharBoundary, IsUtf8}
use Rattle.std.proofs.lemmas.Str.{IsCharBoundary-after_ascii}
use Rattle.formula_grammar.specs.Words.{Kind, Number, Numeral, Token}
use Rattle.formula_grammar.specs.Tokens.{Lexeme, begins_name, begins_number, goes_on, is_backtick, is_blank, lexeme, mark_of, name_lexeme, name_or_word, number_lexeme, quoted_to, tokens, tokens_from}
use Rattle.formula_grammar.specs.Numbers.{is_signed, number_len, numeral_of}
use Rattle.formula_grammar.proofs.NumberTexts.{some_number, unsigned_front, unsigned_number}

-- a slice to the end of a text
pub to_the_end : (bs : List ℕ) (i : ℕ) → i ≤ length bs → take (length bs - i) (drop i bs) ≡ drop i bs
to_the_end bs i h = take_all (length bs - i) (drop i bs) (omega (arith, length-drop i bs))

pub first_and_rest : (bs : List ℕ) (i : ℕ) → i < length bs → drop i bs ≡ get_or bs i 0 ∷ drop (i + 1) bs
first_and_rest bs i lt = drop-cons bs i 0 lt ∙ ap (λ (n : ℕ). get_or bs i 0 ∷ drop n bs) (sym (add-one i))

-- a text may be cut behind a number, whose last byte is ASCII
pub boundary_behind : (text : List ℕ) (at n : ℕ) → IsUtf8 text → at + n ≤ length text → 1 ≤ n → get_or (drop at text) (n - 1) 0 < 128 → IsCharBoundary text (at + n)
boundary_behind text at n whole le some ascii =
    let last : at + n - 1 + 1 ≡ at + n = omega arith in
    let place : at + (n - 1) ≡ at + n - 1 = omega arith in
    let low : get_or text (at + n - 1) 0 < 128 = rw (← place, ← get_or-drop) ascii in
    rw last at (IsCharBoundary-after_ascii text (at + n - 1) whole (omega arith) low)

-- a slice from a place on
abbrev pub from : List ℕ → ℕ → List ℕ
from bs i = take (length bs - i) (drop i bs)

-- what is left at a place, as its first byte and those behind
pub front : (text bytes : List ℕ) (at : ℕ) → bytes ≡ text → at < length text → from bytes at ≡ get_or bytes at 0 ∷ from bytes (at + 1)
front text bytes at e lt =
    let inside : at < length bytes = omega (arith, lt, ap length e) in
    to_the_end bytes at (omega arith) ∙ first_and_rest bytes at inside ∙ ap (λ (x : List ℕ). get_or bytes at 0 ∷ x) (sym (to_the_end bytes (at + 1) (omega arith)))

-- what is known of a number at a place
pub record IsNumberHere (text : List ℕ) (at n : ℕ) : Type 0 where
  pub some : 1 ≤ n
  pub cut : IsCharBoundary text (at + n)

pub number_here : (text bytes : List ℕ) (at n : ℕ) → bytes ≡ text → IsUtf8 text → at < length text → n ≡ number_len (from bytes at) → n ≤ length (from bytes at)
    → (0 < n → get_or (from bytes at) (n - 1) 0 < 128) → begins_number (get_or bytes at 0) (from bytes (at + 1)) ≡ true → IsNumberHere text at n
number_here text bytes at n e whole lt is within ascii begins =
    let here : from bytes at ≡ drop at text = ap (λ (bs : List ℕ). from bs at) e ∙ to_the_end text at (omega arith) in
    let some : 1 ≤ n = subst (λ (m : ℕ). 1 ≤ m) (sym (is ∙ ap number_len (front text bytes at e lt))) (some_number (get_or bytes at 0) (from bytes (at + 1)) begins) in
    let low : get_or (drop at text) (n - 1) 0 < 128 = subst (λ (x : List ℕ). get_or x (n - 1) 0 < 128) here (ascii some) in
    record { some = some; cut = boundary_behind text at n whole (omega (arith, ap length here, length-drop at text, within)) some low }

-- ---- the kinds of tokens, by a first byte and those behind

pub quoted_lexeme : (at b : ℕ) (bs : List ℕ) (l : Lexeme) → begins_name b bs ≡ false → begins_number b bs ≡ false → b ≡ 96 → l ≡ quoted_to at (position is_backtick bs) → l ≡ lexeme at b bs
quoted_lexeme at b bs l name number quote e =
    let test : is_backtick b ≡ true = rw quote refl in
    rw (name, number, test) e

pub mark_lexeme : (at b : ℕ) (bs : List ℕ) (k : Kind) → begins_name b bs ≡ false → begins_number b bs ≡ false → (b ≡ 96 → ⊥) → k ≡ mark_of b
    → (let l : Lexeme = record { kind = k; len = 1 } in l) ≡ lexeme at b bs
mark_lexeme at b bs k name number other is =
    let test : is_backtick b ≡ false = ne_eqb b 96 other in
    rw (name, number, test) (ap (λ (x : Kind). let l : Lexeme = record { kind = x; len = 1 } in l) is)

pub number_lexeme_is : (at b n : ℕ) (bs here : List ℕ) (v : Numeral) → here ≡ b ∷ bs → begins_name b bs ≡ false → begins_number b bs ≡ true → n ≡ number_len here → v ≡ numeral_of (take n here)
    → (let l : Lexeme = record { kind = Number v; len = n } in l) ≡ lexeme at b bs
number_lexeme_is at b n bs here v e name number is value =
    let same : v ≡ numeral_of (take n (b ∷ bs)) = value ∙ ap (λ (x : List ℕ). numeral_of (take n x)) e in
    let made : (let l : Lexeme = record { kind = Number v; len = n } in l) ≡ number_lexeme n (b ∷ bs) = ap (λ (x : Numeral). let l : Lexeme = record { kind = Number x; len = n } in l) same in
    rw (name, number) (made ∙ ap (λ (m : ℕ). number_lexeme m (b ∷ bs)) (is ∙ ap number_len e))

pub name_lexeme_is : (at b n : ℕ) (bs here : List ℕ) (k : Kind) → here ≡ b ∷ bs → begins_name b bs ≡ true → n ≡ prefix_len goes_on here → n ≤ length here → k ≡ name_or_word at (take n here) (from here n)
    → (let l : Lexeme = record { kind = k; len = n } in l) ≡ lexeme at b bs
name_lexeme_is at b n bs here k e name is within word =
    let same : k ≡ name_or_word at (take n (b ∷ bs)) (drop n (b ∷ bs)) =
    word
    ∙ ap (λ (x : List ℕ). name_or_word at (take n x) (from x n)) e
    ∙ ap (name_or_word at (take n (b ∷ bs))) (to_the_end (b ∷ bs) n (subst (λ (x : List ℕ). n ≤ length x) e within)) in
    let made : (let l : Lexeme = record { kind = k; len = n } in l) ≡ name_lexeme at n (b ∷ bs) = ap (λ (x : Kind). let l : Lexeme = record { kind = x; len = n } in l) same in
    rw name (made ∙ ap (λ (m : ℕ). name_lexeme at m (b ∷ bs)) (is ∙ ap (prefix_len goes_on) e))

-- the token of the bytes is that of the text
pub same_lexeme : (text bytes : List ℕ) (at : ℕ) → bytes ≡ text → at < length text → lexeme at (get_or bytes at 0) (from bytes (at + 1)) ≡ lexeme at (get_or text at 0) (drop (at + 1) text)
same_lexeme text bytes at e lt =
    ap (λ (bs : List ℕ). lexeme at (get_or bs at 0) (from bs (at + 1))) e ∙ ap (lexeme at (get_or text at 0)) (to_the_end text (at + 1) (omega arith))

-- the text of a number
pub piece_here : (text bytes : List ℕ) (at n : ℕ) → bytes ≡ text → at < length text → slice_range text at (at + n) ≡ take n (from bytes at)
piece_here text bytes at n e lt =
    let len : at + n - at ≡ n = omega arith in
    ap (λ (m : ℕ). take m (drop at text)) len ∙ ap (take n) (sym (ap (λ (bs : List ℕ). from bs at) e ∙ to_the_end text at (omega arith)))

-- it has no sign
pub piece_unsigned : (text bytes : List ℕ) (at n : ℕ) → bytes ≡ text → at < length text → begins_number (get_or bytes at 0) (from bytes (at + 1)) ≡ true
    → is_signed (slice_range text at (at + n)) ≡ false
piece_unsigned text bytes at n e lt begins =
    ap is_signed (piece_here text bytes at n e lt)
    ∙ unsigned_front (from bytes at) n (ap is_signed (front text bytes at e lt) ∙ unsigned_number (get_or bytes at 0) (from bytes (at + 1)) begins)

-- ---- the loop

pub passed : (k at : ℕ) (bs : List ℕ) → k ≤ length bs → tokens_from at k bs ≡ tokens_from (at + k) 0 (drop k bs)
passed zero at bs h = let e : at + 0 ≡ at = omega arith in rw e refl
passed (suc k) at [] h = absurd (omega arith)
passed (suc k) at (b ∷ bs) h =
    let e : at + 1 + k ≡ at + suc k = omega arith in
    passed k (at + 1) bs (omega arith) ∙ ap (λ (n : ℕ). tokens_from n 0 (drop k bs)) e

token_step : (bs : List ℕ) (i n : ℕ) → i < length bs → is_blank (get_or bs i 0) ≡ false → n ≡ (lexeme i (get_or bs i 0) (drop (i + 1) bs)).len → 1 ≤ n → i + n ≤ length bs
    → tokens_from i 0 (drop i bs) ≡ (let t : Token = record { kind = (lexeme i (get_or bs i 0) (drop (i + 1) bs)).kind; at = i } in t) ∷ tokens_from (i + n) 0 (drop (i + n) bs)
token_step bs i n lt blank len some within =
    let b = get_or bs i 0 in
    let rest = drop (i + 1) bs in
    let t : Token = record { kind = (lexeme i b rest).kind; at = i } in
    let cut = ap (tokens_from i 0) (first_and_rest bs i lt) in
    let here : tokens_from i 0 (b ∷ rest) ≡ t ∷ tokens_from (i + 1) (n - 1) rest = rw (blank, len) refl in
    let over = passed (n - 1) (i + 1) rest (omega (arith, length-drop (i + 1) bs)) in
    let place : i + 1 + (n - 1) ≡ i + n = omega arith in
    let left : drop (n - 1) rest ≡ drop (i + n) bs = drop-drop (n - 1) (i + 1) bs ∙ ap (λ (j : ℕ). drop j bs) place in
    cut ∙ here ∙ ap (λ (x : List Token). t ∷ x) (over ∙ ap (λ (j : ℕ). tokens_from j 0 (drop (n - 1) rest)) place ∙ ap (tokens_from (i + n) 0) left)

pub token_more : (bs : List ℕ) (all all' : List Token) (i : ℕ) (l : Lexeme) → i < length bs → is_blank (get_or bs i 0) ≡ false → l ≡ lexeme i (get_or bs i 0) (drop (i + 1) bs) → 1 ≤ l.len → i + l.len ≤ length bs
    → all' ≡ all ++ ((let t : Token = record { kind = l.kind; at = i } in t) ∷ []) → all ++ tokens_from i 0 (drop i bs) ≡ tokens bs → all' ++ tokens_from (i + l.len) 0 (drop (i + l.len) bs) ≡ tokens bs
token_more bs all all' i l lt blank is some within pushed left =
    let t : Token = record { kind = l.kind; at = i } in
    let rest = tokens_from (i + l.len) 0 (drop (i + l.len) bs) in
    let kind : (let u : Token = record { kind = (lexeme i (get_or bs i 0) (drop (i + 1) bs)).kind; at = i } in u) ≡ t =
    ap (λ (x : Lexeme). let u : Token = record { kind = x.kind; at = i } in u) (sym is) in
    let step = token_step bs i l.len lt blank (ap (λ (x : Lexeme). x.len) is) some within ∙ ap (λ (u : Token). u ∷ rest) kind in
    ap (λ (x : List Token). x ++ rest) pushed ∙ append_assoc all (t ∷ []) rest ∙ ap (λ (x : List Token). all ++ x) (sym step) ∙ left

pub nothing_yet : (bs : List ℕ) (all : List Token) → all ≡ [] → all ++ tokens_from 0 0 bs ≡ tokens bs
unfolding tokens
nothing_yet bs all e = rw e refl

pub token_here : (text bytes : List ℕ) (all all' : List Token) (i : ℕ) (l : Lexeme) → bytes ≡ text → i < length bytes → is_blank (get_or bytes i 0) ≡ false
    → l ≡ lexeme i (get_or text i 0) (drop (i + 1) text) → 1 ≤ l.len → i + l.len ≤ length text → all' ≡ all ++ ((let t : Token = record { kind = l.kind; at = i } in t) ∷ [])
    → all ++ tokens_from i 0 (drop i bytes) ≡ tokens bytes → all' ++ tokens_from (i + l.len) 0 (drop (i + l.len) bytes) ≡ tokens bytes
token_here text bytes all all' i l e lt blank is some within pushed left =
    token_more bytes all all' i l lt blank (rw e is) some (rw e within) pushed left
