-- Numbered lines, one more at a time.
use Rattle.std.proofs.Common.{◌≡◌, ℕ, ◌+◌, ◌<◌, suc, List, [], ◌∷◌, ◌++◌, length, get_or, take, arith, sym, ap, ◌∙◌, append_assoc, append-nil, length-take}
use Rattle.std.proofs.Math.Seq.{take-length}
use Rattle.std.proofs.lemmas.Slice.Zip.{get_or-zip, length-zip}
use Rattle.std.specs.List.{zip}
use Rattle.std.proofs.lemmas.List.{take_more}
use Rattle.report_text.specs.ReportText.{numbered}

pub numbered-append : {X : Type 0} (text : ℕ → X → List ℕ) (i : ℕ) (xs ys : List X) → numbered text i (xs ++ ys) ≡ numbered text i xs ++ numbered text (i + length xs) ys
numbered-append text i [] ys = ap (λ n. numbered text n ys) (omega arith)
numbered-append text i (x ∷ xs) ys =
    ap (λ rest. text i x ++ rest) (numbered-append text (i + 1) xs ys ∙ ap (λ n. numbered text (i + 1) xs ++ numbered text n ys) (omega arith))
    ∙ sym (append_assoc (text i x) (numbered text (i + 1) xs) (numbered text (i + suc (length xs)) ys))

-- the step of a loop that adds the text of the item at k, whose number is n
pub numbered_more : {X : Type 0} (text : ℕ → X → List ℕ) (i : ℕ) (xs : List X) (k n : ℕ) (d : X) (start page new : List ℕ) → k < length xs → n ≡ k + i → page ≡ start ++ numbered text i (take k xs) → new ≡ page ++ text n (get_or xs k d)
    → new ≡ start ++ numbered text i (take (k + 1) xs)
numbered_more text i xs k n d start page new within number so_far more =
    more ∙ ap (λ z. z ++ text n (get_or xs k d)) so_far ∙ append_assoc start (numbered text i (take k xs)) (text n (get_or xs k d))
    ∙ ap (λ z. start ++ z) (sym (ap (numbered text i) (take_more xs k d within) ∙ numbered-append text i (take k xs) (get_or xs k d ∷ []) ∙ ap (λ z. numbered text i (take k xs) ++ z) last))
  where
    last : numbered text (i + length (take k xs)) (get_or xs k d ∷ []) ≡ text n (get_or xs k d)
    last =
        let here : i + length (take k xs) ≡ n = omega (arith, length-take k xs) in
        append-nil (text (i + length (take k xs)) (get_or xs k d)) ∙ ap (λ n. text n (get_or xs k d)) here

-- the same, where the item is known by an equation
pub numbered_more_at : {X : Type 0} (text : ℕ → X → List ℕ) (i : ℕ) (xs : List X) (k n : ℕ) (x : X) (start page new : List ℕ) → k < length xs → n ≡ k + i → x ≡ get_or xs k x → page ≡ start ++ numbered text i (take k xs)
    → new ≡ page ++ text n x → new ≡ start ++ numbered text i (take (k + 1) xs)
numbered_more_at text i xs k n x start page new within number here so_far more =
    numbered_more text i xs k n x start page new within number so_far (more ∙ ap (λ z. page ++ text n z) here)

-- the same for the items of two lists side by side
pub numbered_zip_more : {X Y : Type 0} (text : ℕ → X × Y → List ℕ) (i : ℕ) (xs : List X) (ys : List Y) (k n : ℕ) (x : X) (y : Y) (start page new : List ℕ) → k < length xs → k < length ys → n ≡ k + i → x ≡ get_or xs k x → y ≡ get_or ys k y
    → page ≡ start ++ numbered text i (take k (zip xs ys)) → new ≡ page ++ text n (x, y) → new ≡ start ++ numbered text i (take (k + 1) (zip xs ys))
numbered_zip_more {X} {Y} text i xs ys k n x y start page new within within' number here here' so_far more =
    numbered_more_at text i (zip xs ys) k n (x, y) start page new (omega (arith, length-zip xs ys)) number (pair ∙ sym (get_or-zip xs ys k (x, y) within within')) so_far more
  where
    beside : X → Y → X × Y
    beside a b = (a, b)

    pair : beside x y ≡ beside (get_or xs k x) (get_or ys k y)
    pair = ap (λ a. beside a y) here ∙ ap (beside (get_or xs k x)) here'

-- all of them, at the end of the loop
pub numbered_zip_all : {X Y : Type 0} (text : ℕ → X × Y → List ℕ) (i : ℕ) (xs : List X) (ys : List Y) (k : ℕ) (start page : List ℕ) → length ys ≡ length xs → k ≡ length xs → page ≡ start ++ numbered text i (take k (zip xs ys))
    → page ≡ start ++ numbered text i (zip xs ys)
numbered_zip_all text i xs ys k start page same all so_far =
    let n : k ≡ length (zip xs ys) = omega (arith, length-zip xs ys) in
    so_far ∙ ap (λ n. start ++ numbered text i (take n (zip xs ys))) n ∙ ap (λ z. start ++ numbered text i z) (take-length (zip xs ys))
