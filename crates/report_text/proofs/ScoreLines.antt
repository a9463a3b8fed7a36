-- Lines of scores that are added one by one for the tested columns.
use Rattle.std.proofs.Common.{◌≡◌, ℕ, ◌+◌, ◌<◌, List, ◌++◌, length, get_or, take, arith, sym, ap, ◌∙◌}
use Rattle.std.specs.List.{flat_map, zip}
use Rattle.std.proofs.Math.Seq.{take-length}
use Rattle.std.proofs.lemmas.Slice.Zip.{get_or-zip, length-zip}
use Rattle.rational_laws.specs.Fraction.{Fraction}
use Rattle.report_text.specs.ReportText.{score_line}
use Rattle.report_text.proofs.Duals.{flat_more}

module _ (tested : List ℕ) (scores : List Fraction) (same : length scores ≡ length tested) where
  abbrev beside : ℕ → Fraction → ℕ × Fraction
  beside column score = (column, score)

  size : length (zip tested scores) ≡ length tested
  size = omega (arith, length-zip tested scores, same)

  -- the step of the loop
  pub scores_more : (k d : ℕ) (score : Fraction) (start page new : List ℕ) → k < length tested → score ≡ get_or scores k score
      → page ≡ start ++ flat_map score_line (take k (zip tested scores)) → new ≡ page ++ score_line (beside (get_or tested k d) score)
      → new ≡ start ++ flat_map score_line (take (k + 1) (zip tested scores))
  scores_more k d score start page new within at_scores so_far more =
      let pair : beside (get_or tested k d) score ≡ get_or (zip tested scores) k (beside d score) =
      ap (beside (get_or tested k d)) at_scores ∙ sym (get_or-zip tested scores k (beside d score) within (omega (arith, within, same))) in
      flat_more score_line (zip tested scores) k (beside d score) start page new (omega (arith, within, size)) so_far (more ∙ ap (λ p. page ++ score_line p) pair)

  -- its end
  pub scores_all : (k : ℕ) (start page : List ℕ) → k ≡ length tested → page ≡ start ++ flat_map score_line (take k (zip tested scores))
      → page ≡ start ++ flat_map score_line (zip tested scores)
  scores_all k start page end so_far =
      let n : k ≡ length (zip tested scores) = omega (arith, end, size) in
      so_far ∙ ap (λ n. start ++ flat_map score_line (take n (zip tested scores))) n ∙ ap (λ z. start ++ flat_map score_line z) (take-length (zip tested scores))
