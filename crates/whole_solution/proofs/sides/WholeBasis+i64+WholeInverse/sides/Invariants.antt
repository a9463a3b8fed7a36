use Rattle.std.specs.Prelude.{◌≡◌, ℕ, ◌<◌, false, length, slice_index}
use Rattle.rational_laws.specs.Selections.{is_among}
use Rattle.basis_model.specs.Basis.{side_at}
use Rattle.whole_inverse.specs.Squares.{inverse_of}
use Rattle.whole_rows.specs.Wholes.{sample_of_rows}
use Rattle.loss_model.specs.Sides.{side_in}
use Rattle.whole_solution.proofs.sides.WholeBasis+i64+WholeInverse.sides.Given as goal

abbrev pub invariant-loop-row : goal.invariant-loop-row
invariant-loop-row l =
    let s = l.self.inverse.now in
    let at = slice_index l.self.basis.now.rows in
    record {
      size : length l.made ≡ l.row;
      each : (i : ℕ) → i < l.row → is_among at (length s.columns) i ≡ false → side_in l.made i ≡ side_at (sample_of_rows (length s.columns) l.self.rows.now) at (inverse_of s) i;
    }
