-- Digits that are counted, and lists that are gone through item by item, by a test.
use Rattle.std.proofs.Common.{◌≡◌, ℕ, ◌+◌, ◌^◌, ◌<◌, ◌≤◌, ◌&&◌, Bool, true, false, List, [], ◌∷◌, length, drop, get_or, arith, lit<, sym, ap, ◌∙◌}
use Rattle.std.proofs.Math.Bool.{and_assoc}
use Rattle.std.proofs.lemmas.Bool.{le-leb}
use Rattle.std.proofs.lemmas.Fmt.{length-decimal-le_wide}
use Rattle.std.proofs.lemmas.List.{drop_all, drop_more}
use Rattle.natural.specs.Decimal.{decimal_text}
use Rattle.natural.proofs.Texts.{decimal_is_std}
use Rattle.cert_text.specs.Ratios.{most_digits}
use Rattle.rq_engine.specs.Digits.{has_few_digits}

-- a number of 128 bits has 64 digits at most
pub narrow_few : (n : ℕ) → n < 2 ^ 128 → has_few_digits n ≡ true
narrow_few n h =
    let most : 2 ^ 128 < 10 ^ 64 = lit< tt in
    let wide : n < 10 ^ 64 = omega (arith, h, most) in
    le-leb (length (decimal_text n)) most_digits (omega (arith, ap length (decimal_is_std n wide), length-decimal-le_wide 64 n (omega arith) wide wide))

module _ {T : Type 0} (test : T → Bool) (are : List T → Bool) (none : are [] ≡ true) (more : (x : T) (xs : List T) → are (x ∷ xs) ≡ (test x && are xs)) where
  -- all items pass where those before item i do and those from it on do
  abbrev pub IsTested : List T → ℕ → Bool → Type 0
  IsTested xs i all = are xs ≡ (all && are (drop i xs))

  pub tested_more : (xs : List T) (i : ℕ) (x : T) (all here after : Bool) → i < length xs → x ≡ get_or xs i x → IsTested xs i all → here ≡ test x → after ≡ (all && here) → IsTested xs (i + 1) after
  tested_more xs i x all here after lt at before is joined =
      let rest = are (drop (i + 1) xs) in
      before ∙ ap (λ l. all && are l) (drop_more xs i x lt ∙ ap (λ y. y ∷ drop (i + 1) xs) (sym at)) ∙ ap (λ b. all && b) (more x (drop (i + 1) xs))
      ∙ ap (λ b. all && (b && rest)) (sym is) ∙ sym (and_assoc all here rest) ∙ ap (λ b. b && rest) (sym joined)

  pub tested_all : (xs : List T) (i : ℕ) (all : Bool) → length xs ≤ i → IsTested xs i all → all ≡ are xs
  tested_all xs i true over h = sym (h ∙ ap are (drop_all i xs over) ∙ none)
  tested_all xs i false over h = sym h
