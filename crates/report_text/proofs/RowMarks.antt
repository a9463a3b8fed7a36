-- The marks of rows, those of data rows and those of the others apart.
use Rattle.std.proofs.Common.{◌≡◌, ℕ, ◌+◌, ◌<◌, ◌≤◌, List, [], ◌∷◌, ◌++◌, length, take, drop, true, false, arith, sym, ap, ◌∙◌, refl, length-take}
use Rattle.std.specs.List.{flat_map}
use Rattle.std.proofs.lemmas.Bool.{lt-ltb, le-ltb}
use Rattle.std.proofs.lemmas.List.{take-append-drop, length-drop}
use Rattle.loss_model.specs.declared.vertex.Side.{Side}
use Rattle.report_text.specs.ReportText.{numbered, row_mark}
use Rattle.report_text.specs.Said.{side_mark}
use Rattle.report_text.proofs.Numbered.{numbered-append}

-- rows that all are data rows
marks_above : (n i : ℕ) (xs : List Side) → i + length xs ≤ n → numbered (row_mark n) i xs ≡ flat_map (side_mark true) xs
marks_above n i [] within = refl
marks_above n i (x ∷ xs) within =
    ap (λ b. side_mark b x ++ numbered (row_mark n) (i + 1) xs) (lt-ltb i n (omega (arith, within)))
    ∙ ap (λ rest. side_mark true x ++ rest) (marks_above n (i + 1) xs (omega (arith, within)))

-- rows of which none is a data row
marks_below : (n i : ℕ) (xs : List Side) → (0 < length xs → n ≤ i) → numbered (row_mark n) i xs ≡ flat_map (side_mark false) xs
marks_below n i [] beyond = refl
marks_below n i (x ∷ xs) beyond =
    let here : n ≤ i = beyond (omega arith) in
    ap (λ b. side_mark b x ++ numbered (row_mark n) (i + 1) xs) (le-ltb i n here)
    ∙ ap (λ rest. side_mark false x ++ rest) (marks_below n (i + 1) xs (λ _. omega (arith, here)))

-- the first k rows and the others, where k is the number of data rows or of all rows
pub marks_apart : (n k : ℕ) (xs : List Side) → k ≤ n → k ≤ length xs → (k < length xs → n ≤ k)
    → flat_map (side_mark true) (take k xs) ++ flat_map (side_mark false) (drop k xs) ≡ numbered (row_mark n) 0 xs
marks_apart n k xs few within all =
    let size : length (take k xs) ≡ k = omega (arith, length-take k xs, within) in
    ap (λ z. z ++ flat_map (side_mark false) (drop k xs)) (sym (marks_above n 0 (take k xs) (omega (arith, size, few))))
    ∙ ap (λ z. numbered (row_mark n) 0 (take k xs) ++ z) (sym (marks_below n (0 + length (take k xs)) (drop k xs) (λ some. omega (arith, size, all (omega (arith, some, length-drop k xs))))))
    ∙ sym (numbered-append (row_mark n) 0 (take k xs) (drop k xs))
    ∙ ap (numbered (row_mark n) 0) (take-append-drop k xs)
