-- Records that are predicted, one after the other.
use Rattle.std.proofs.Common.{◌≡◌, ◌&&◌, ℕ, ◌+◌, Bool, true, false, not, List, [], ◌∷◌, ◌++◌, filter, map, refl, sym, ap, ◌∙◌}
use Rattle.std.proofs.lemmas.List.{map-append}
use Rattle.std.specs.List.{range_with_len}
use Rattle.formula_parser.specs.declared.formula.Formula.{Formula}
use Rattle.design_matrix.specs.Cells.{Column, Table, column_of, predictor_names}
use Rattle.design_matrix.specs.Predicted.{is_asked, is_predicted}
use Rattle.design_matrix.proofs.Steps.{keeps, passes_over}

-- a response that is there
pub asked_no : (p b r : Bool) → r ≡ p → r ≡ true → false ≡ (not p && b)
asked_no p b r e f = ap (λ t. not t && b) (sym f ∙ e)

-- one that is missing
pub asked_yes : (p b r q : Bool) → r ≡ p → r ≡ false → q ≡ b → q ≡ (not p && b)
asked_yes p b r q e f g = g ∙ ap (λ t. not t && b) (sym f ∙ e)

module _ (test : ℕ → Bool) (n : ℕ) (old : List ℕ) (so_far : old ≡ map (λ i. i + 1) (filter test (range_with_len 0 n))) where
  -- one more record that passes the test
  pub asked_more : (new : List ℕ) → new ≡ old ++ (n + 1) ∷ [] → test n ≡ true → new ≡ map (λ i. i + 1) (filter test (range_with_len 0 (n + 1)))
  asked_more new e t =
      e ∙ ap (λ l. l ++ (n + 1) ∷ []) so_far ∙ sym (map-append (λ i. i + 1) (filter test (range_with_len 0 n)) (n ∷ []))
      ∙ ap (map (λ i. i + 1)) (keeps test n (filter test (range_with_len 0 n)) (filter test (range_with_len 0 n) ++ n ∷ []) refl refl t)

  -- and one that doesn't
  pub asked_past : (new : List ℕ) → new ≡ old → test n ≡ false → new ≡ map (λ i. i + 1) (filter test (range_with_len 0 (n + 1)))
  asked_past new e t = e ∙ so_far ∙ ap (map (λ i. i + 1)) (passes_over test n (filter test (range_with_len 0 n)) (filter test (range_with_len 0 n)) refl refl t)

-- the test of a record by the columns that are held
pub asked_is : (table : Table) (model : Formula) (response : Column) (columns : List Column) (i : ℕ) (asked : Bool) → response ≡ column_of table model.response
    → columns ≡ map (column_of table) (predictor_names model) → asked ≡ is_asked response columns i → is_predicted table model i ≡ asked
asked_is table model response columns i asked e f g =
    ap (λ r. is_asked r (map (column_of table) (predictor_names model)) i) (sym e) ∙ ap (λ l. is_asked response l i) (sym f) ∙ sym g
