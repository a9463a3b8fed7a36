-- On the blanks at the ends of a text.
use Rattle.std.proofs.Common.{◌≡◌, ◌∙◌, ◌<◌, ◌≤◌, ◌-◌, ◌+◌, ℕ, zero, suc, slice_index, true, false, [], ◌∷◌, ◌++◌, length, take, drop, get_or, reverse, refl, sym, ap, arith, add-one}
use Rattle.std.proofs.Math.Seq.{drop-cons}
use Rattle.std.proofs.lemmas.List.{drop_all, reverse-append, reverse-reverse, take_more}
use Rattle.data_frame.specs.Cells.{is_blank, without_leading_blanks, without_trailing_blanks}
use Rattle.std.specs.Str.{IsCharBoundary, IsUtf8}
use Rattle.std.proofs.lemmas.Str.{IsCharBoundary-after_ascii, IsCharBoundary-start}
use Rattle.data_frame.specs.Records.{Text}

pub blank_is_ascii : (b : ℕ) → is_blank b ≡ true → b < 128
blank_is_ascii b e = grind arith

leading : (b : ℕ) (rest : Text) → is_blank b ≡ true → without_leading_blanks (b ∷ rest) ≡ without_leading_blanks rest
unfolding without_leading_blanks
leading b rest e = rw e refl

none_leading : (b : ℕ) (rest : Text) → is_blank b ≡ false → without_leading_blanks (b ∷ rest) ≡ b ∷ rest
unfolding without_leading_blanks
none_leading b rest e = rw e refl

pub leading_blank : (text : Text) (i : ℕ) → i < length text → is_blank (get_or text i 0) ≡ true
    → without_leading_blanks (drop i text) ≡ without_leading_blanks (drop (i + 1) text)
leading_blank text i lt e = rw (drop-cons text i 0, add-one) (leading (get_or text i 0) (drop (suc i) text) e)

pub no_leading_blank : (text : Text) (i : ℕ) → i < length text → is_blank (get_or text i 0) ≡ false
    → without_leading_blanks (drop i text) ≡ drop i text
no_leading_blank text i lt e = rw (drop-cons text i 0) (none_leading (get_or text i 0) (drop (suc i) text) e)

trailing : (xs : Text) (b : ℕ) → is_blank b ≡ true → without_trailing_blanks (xs ++ b ∷ []) ≡ without_trailing_blanks xs
unfolding without_trailing_blanks
trailing xs b e = rw (reverse-append xs (b ∷ [])) (ap reverse (leading b (reverse xs) e))

none_trailing : (xs : Text) (b : ℕ) → is_blank b ≡ false → without_trailing_blanks (xs ++ b ∷ []) ≡ xs ++ b ∷ []
unfolding without_trailing_blanks
none_trailing xs b e =
    rw (reverse-append xs (b ∷ [])) (ap reverse (none_leading b (reverse xs) e) ∙ ap reverse (sym (reverse-append xs (b ∷ []))) ∙ reverse-reverse (xs ++ b ∷ []))

last_byte : (text : Text) (n : ℕ) → 0 < n → n - 1 < length text → take n text ≡ take (n - 1) text ++ get_or text (n - 1) 0 ∷ []
last_byte text n pos lt = let e : n ≡ n - 1 + 1 = omega arith in ap (λ m. take m text) e ∙ take_more text (n - 1) 0 lt

pub trailing_blank : (text : Text) (n : ℕ) → 0 < n → n - 1 < length text → is_blank (get_or text (n - 1) 0) ≡ true
    → without_trailing_blanks (take n text) ≡ without_trailing_blanks (take (n - 1) text)
trailing_blank text n pos lt e = ap without_trailing_blanks (last_byte text n pos lt) ∙ trailing (take (n - 1) text) (get_or text (n - 1) 0) e

pub no_trailing_blank : (text : Text) (n : ℕ) → 0 < n → n - 1 < length text → is_blank (get_or text (n - 1) 0) ≡ false
    → without_trailing_blanks (take n text) ≡ take n text
no_trailing_blank text n pos lt e =
    ap without_trailing_blanks (last_byte text n pos lt) ∙ none_trailing (take (n - 1) text) (get_or text (n - 1) 0) e ∙ sym (last_byte text n pos lt)

pub no_bytes : without_trailing_blanks [] ≡ []
unfolding without_trailing_blanks without_leading_blanks
no_bytes = refl

-- a text may be cut behind an ASCII byte
pub boundary_behind : (text : Text) (n : ℕ) → IsUtf8 text → n ≤ length text → (0 < n → slice_index text (n - 1) < 128) → IsCharBoundary text n
boundary_behind text zero whole le ascii = IsCharBoundary-start text whole
boundary_behind text (suc k) whole le ascii =
    let e : suc k - 1 ≡ k = omega arith in
    let low = rw e at (ascii (omega arith)) in
    rw (← add-one) (IsCharBoundary-after_ascii text k whole (omega arith) low)

pub ascii_behind : (text : Text) (i : ℕ) → is_blank (get_or text i 0) ≡ true → slice_index text (i + 1 - 1) < 128
ascii_behind text i e = let same : i + 1 - 1 ≡ i = omega arith in rw same (blank_is_ascii (get_or text i 0) e)

pub none_behind : (text : Text) → drop (length text) text ≡ without_leading_blanks (drop (length text) text)
unfolding without_leading_blanks
none_behind text = rw (drop_all (length text) text (omega arith)) refl
