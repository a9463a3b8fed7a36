-- Coordinates by the numerators at a position.
use Rattle.std.specs.Prelude.{◌≡◌, ℕ, ℤ, ◌<◌, List, length, slice_get, get_or, Option, Some, pos}
use Rattle.std.specs.Option.{option_map_or}
use Rattle.std.proofs.Common.{sym, ap, subst, ◌∙◌}
use Rattle.std.proofs.lemmas.Option.{get_or_from_slice_get}
use Rattle.rational_laws.specs.Rational.{ℚ, ◌*ℚ◌, whole}
use Rattle.rational_laws.specs.RationalSums.{sum_ℚ}
use Rattle.rational_laws.proofs.RationalSumLaws.{sum_ℚ-same}
use Rattle.basis_model.specs.Basis.{coord}
use Rattle.rational_laws.specs.WholeLists.{whole_at}
use Rattle.whole_inverse.specs.Shares.{share, share_at}
use Rattle.whole_inverse.specs.Squares.{WholeSquare, IsWholeSquare, inverse_of}
use Rattle.whole_rows.specs.declared.rows.WholeRow.{WholeRow}
use Rattle.whole_rows.specs.Wholes.{of_whole, sample_of_rows}
use Rattle.whole_solution.proofs.Reading.{product_of_row}

-- the numerators at a position are as many as there are columns
pub column_size : (s : WholeSquare) → IsWholeSquare s → (j : ℕ) (column : List ℤ) → j < length s.columns → slice_get s.columns j ≡ Some column → length column ≡ length s.columns
column_size s h j column lj is = subst (λ xs. length xs ≡ length s.columns) (get_or_from_slice_get s.columns j column column is) (h.square j column lj)

-- the products with them are the coordinates there
pub coordinates_by : (s : WholeSquare) → IsWholeSquare s → (rows : List (WholeRow ℤ)) (i j : ℕ) (column : List ℤ) (made : ℚ) → j < length s.columns → slice_get s.columns j ≡ Some column
    → made ≡ sum_ℚ (length column) (λ k. of_whole rows (λ r. whole_at r.x k) i *ℚ share_at s.determinant column k) → made ≡ coord (sample_of_rows (length s.columns) rows) (inverse_of s) i j
coordinates_by s h rows i j column made lj is e =
    e ∙ ap (λ n. sum_ℚ n (λ k. of_whole rows (λ r. whole_at r.x k) i *ℚ share_at s.determinant column k)) (column_size s h j column lj is)
    ∙ sum_ℚ-same (length s.columns) (λ k. of_whole rows (λ r. whole_at r.x k) i *ℚ share_at s.determinant column k) (λ k. of_whole rows (λ r. whole_at r.x k) i *ℚ inverse_of s k j)
    (λ k lk. ap (λ (o : Option (List ℤ)). of_whole rows (λ r. whole_at r.x k) i *ℚ option_map_or (λ xs. share_at s.determinant xs k) o (whole (pos 0))) (sym is))

-- the product with a row that was read
pub row_coordinate : (s : WholeSquare) → IsWholeSquare s → (rows : List (WholeRow ℤ)) (i j : ℕ) (r : WholeRow ℤ) (column : List ℤ) (x : ℤ) → i < length rows → r ≡ get_or rows i r → j < length s.columns → slice_get s.columns j ≡ Some column
    → length r.x ≡ length column → share x s.determinant ≡ sum_ℚ (length r.x) (λ k. whole_at r.x k *ℚ share_at s.determinant column k) → share x s.determinant ≡ coord (sample_of_rows (length s.columns) rows) (inverse_of s) i j
row_coordinate s h rows i j r column x li e lj is wide made = coordinates_by s h rows i j column (share x s.determinant) lj is (product_of_row rows i r column x s.determinant li e wide made)
