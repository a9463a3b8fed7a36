-- The residual at these coefficients is that at the basis.
use Rattle.std.proofs.Common.{rules, ◌≡◌, length, slice_index, to_z, of_z, ◌∙◌}
use mir.Syntax.{w128}
use Rattle.basis_model.specs.Basis.{coefficient}
use Rattle.whole_inverse.specs.Shares.{share_at}
use Rattle.whole_inverse.specs.Squares.{inverse_of}
use Rattle.whole_rows.specs.Wholes.{sample_of_rows}
use Rattle.whole_solution.proofs.Same.{residual_same}
use Rattle.whole_solution.proofs.solution.WholeBasis+i64+WholeInverse.listed_side.Goals as goal

pub free_side-requires-clause-residual : goal.free_side-requires-clause-residual
free_side-requires-clause-residual c =
    let b = c.args.self.now in
    let s = b.inverse.now in
    let p = sample_of_rows (length s.columns) b.rows.now in
    let plain : to_z w128 (of_z w128 c.in_ok-number.number) ≡ c.in_ok-number.number = search rules in
    rw (plain) (c.in_ok-number.ensures ∙ residual_same p (share_at s.determinant c.args.coef.now.numbers.now) (coefficient p (slice_index b.basis.now.rows) (inverse_of s)) c.requires.each c.args.row)
