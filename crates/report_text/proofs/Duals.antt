-- Lines that are added one by one for the items of three lists side by side.
use Rattle.std.proofs.Common.{◌≡◌, ℕ, ◌+◌, ◌<◌, List, [], ◌∷◌, ◌++◌, length, get_or, take, arith, sym, ap, ◌∙◌, append_assoc, append-nil}
use Rattle.std.specs.List.{flat_map, zip}
use Rattle.std.proofs.Math.Seq.{take-length}
use Rattle.std.proofs.lemmas.Grind.{flat_map-append}
use Rattle.std.proofs.lemmas.List.{take_more}
use Rattle.std.proofs.lemmas.Slice.Zip.{get_or-zip, length-zip}
use Rattle.rational_laws.specs.Fraction.{Fraction}
use Rattle.report_text.specs.ReportText.{dual_line}

-- the step of a loop that adds the text of the item at k
pub flat_more : {X : Type 0} (text : X → List ℕ) (xs : List X) (k : ℕ) (d : X) (start page new : List ℕ) → k < length xs → page ≡ start ++ flat_map text (take k xs) → new ≡ page ++ text (get_or xs k d)
    → new ≡ start ++ flat_map text (take (k + 1) xs)
flat_more text xs k d start page new within so_far more =
    more ∙ ap (λ z. z ++ text (get_or xs k d)) so_far ∙ append_assoc start (flat_map text (take k xs)) (text (get_or xs k d))
    ∙ ap (λ z. start ++ z) (sym (ap (flat_map text) (take_more xs k d within) ∙ flat_map-append text (take k xs) (get_or xs k d ∷ []) ∙ ap (λ z. flat_map text (take k xs) ++ z) (append-nil (text (get_or xs k d)))))

module _ (rows : List ℕ) (lo hi : List Fraction) (same_lo : length lo ≡ length rows) (same_hi : length hi ≡ length rows) where
  abbrev items : List ((ℕ × Fraction) × Fraction)
  items = zip (zip rows lo) hi

  size : length items ≡ length rows
  size = omega (arith, length-zip (zip rows lo) hi, length-zip rows lo, same_lo, same_hi)

  abbrev beside : ℕ → Fraction → Fraction → (ℕ × Fraction) × Fraction
  beside row a b = ((row, a), b)

  -- the item at k is that of each list
  there : (k d : ℕ) (a b : Fraction) → k < length rows → a ≡ get_or lo k a → b ≡ get_or hi k b → beside (get_or rows k d) a b ≡ get_or items k (beside d a b)
  there k d a b within at_lo at_hi =
      ap (λ z. beside (get_or rows k d) z b) at_lo ∙ ap (λ z. beside (get_or rows k d) (get_or lo k a) z) at_hi
      ∙ sym (get_or-zip (zip rows lo) hi k (beside d a b) (omega (arith, within, same_lo, length-zip rows lo)) (omega (arith, within, same_hi))
      ∙ ap (λ p. (p, get_or hi k b)) (get_or-zip rows lo k (d, a) within (omega (arith, within, same_lo))))

  pub duals_more : (k d : ℕ) (a b : Fraction) (start page new : List ℕ) → k < length rows → a ≡ get_or lo k a → b ≡ get_or hi k b
      → page ≡ start ++ flat_map dual_line (take k items) → new ≡ page ++ dual_line (beside (get_or rows k d) a b) → new ≡ start ++ flat_map dual_line (take (k + 1) items)
  duals_more k d a b start page new within at_lo at_hi so_far more =
      flat_more dual_line items k (beside d a b) start page new (omega (arith, within, size)) so_far (more ∙ ap (λ p. page ++ dual_line p) (there k d a b within at_lo at_hi))

  pub duals_all : (k : ℕ) (start page : List ℕ) → k ≡ length rows → page ≡ start ++ flat_map dual_line (take k items) → page ≡ start ++ flat_map dual_line items
  duals_all k start page end so_far =
      let n : k ≡ length items = omega (arith, end, size) in
      so_far ∙ ap (λ n. start ++ flat_map dual_line (take n items)) n ∙ ap (λ z. start ++ flat_map dual_line z) (take-length items)
