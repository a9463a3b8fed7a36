-- A residual that isn't 0 tells the side of a row outside the basis.
use Rattle.std.proofs.Common.{rules, ◌≡◌, ◌≢◌, ◌≤ℤ◌, ℤ, length, slice_index, pos, sym, ap, ◌∙◌}
use Rattle.rational_laws.specs.Rational.{whole}
use Rattle.rational_laws.specs.Order.{cmp_ℚ}
use Rattle.basis_model.specs.Perturbed.{side_of}
use Rattle.basis_model.proofs.Signs.{side-residual}
use Rattle.basis_model.specs.Basis.{outside_row}
use Rattle.whole_inverse.specs.Shares.{share}
use Rattle.whole_inverse.specs.Squares.{inverse_of}
use Rattle.whole_rows.specs.Wholes.{sample_of_rows}
use Rattle.whole_solution.proofs.Numbers.{share_some}
use Rattle.whole_solution.proofs.Made.{outside_by}
use Rattle.whole_solution.proofs.sides.WholeBasis+i64+WholeInverse.free_side.Goals as goal

pub returns-then-number-ne0 : goal.returns-then-number-ne0
returns-then-number-ne0 c =
    let b = c.args.self.now in
    let s = b.inverse.now in
    let n = length s.columns in
    let at = slice_index b.basis.now.rows in
    let u = outside_row (sample_of_rows n b.rows.now) at (inverse_of s) c.args.row in
    let some : c.args.number ≢ pos 0 = search rules in
    let made : (d : ℤ) → pos 1 ≤ℤ d → c.side_of_number.result ≡ side_of (cmp_ℚ (share c.args.number d) (whole (pos 0))) = search rules in
    let positive = c.requires.basis.shape.positive in
    λ outside. made s.determinant positive ∙ ap (λ z. side_of (cmp_ℚ z (whole (pos 0)))) c.requires.residual
    ∙ sym (side-residual n at u (λ e. share_some c.args.number s.determinant positive some (c.requires.residual ∙ e)) (length b.rows.now))
    ∙ outside_by (sample_of_rows n b.rows.now) at (inverse_of s) c.args.row outside
