-- The first product of a row, and of rows, that overflows.
use Rattle.std.proofs.Common.{◌≡◌, ◌<◌, ℕ, List, [], length, map, take, get_or, sym, ap, ◌∙◌, arith, subst}
use Rattle.std.proofs.lemmas.List.{get_or-map, length-map, take-map}
use Rattle.frac_core.specs.declared.frac128.Frac128.{Frac128}
use Rattle.loss_model.specs.declared.spill.Spill.{Spill}
use Rattle.design_matrix.specs.Designs.{OverflowsFirst, OverflowsInColumn, OverflowsInRecord, OverflowsInRow, RecordFits, RowFits}
use Rattle.formula_parser.specs.declared.formula.Formula.{Formula}
use Rattle.design_matrix.specs.Cells.{Table}
use Rattle.design_matrix.specs.Parts.{Part}

pub in_row : {X : Type 0} (told : X → List Part) (columns : List X) (i : ℕ) (x : X) (place rec : ℕ) (s : Spill Frac128) → i < length columns
    → x ≡ get_or columns i x → RowFits (map told (take i columns)) place → OverflowsInColumn (told x) place rec i s
    → OverflowsInRow (map told columns) place rec s
in_row told columns i x place rec s h e fits o =
    let n : length (map told columns) ≡ length columns = length-map columns told in
    let P : List Part → Type 0 = λ c. OverflowsInColumn c place rec i s in
    let Q : List (List Part) → Type 0 = λ cs. RowFits cs place in
    record {
      column = i;
      there = omega arith;
      first = subst P (sym (get_or-map told columns i x [] h ∙ ap told (sym e))) o;
      before = subst Q (sym (take-map told i columns)) fits;
    }

pub first_record : (table : Table) (model : Formula) (columns : List (List Part)) (records : List ℕ) (place index : ℕ) (s : Spill Frac128) → place < length records
    → index ≡ get_or records place 0 → ((q : ℕ) → q < place → RecordFits table model columns q (get_or records q 0)) → OverflowsInRecord table model columns place index s
    → OverflowsFirst table model columns records s
first_record table model columns records place index s h e fits o =
    let P : ℕ → Type 0 = λ i. OverflowsInRecord table model columns place i s in
    record { place = place; there = h; here = subst P e o; before = fits }
