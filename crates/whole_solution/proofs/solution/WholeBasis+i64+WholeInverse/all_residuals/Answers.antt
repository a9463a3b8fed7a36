-- Those of the coefficients.
use Rattle.std.proofs.Common.{length, slice_index, ◌∙◌}
use Rattle.basis_model.specs.Basis.{coefficient}
use Rattle.whole_inverse.specs.Shares.{share_at}
use Rattle.whole_inverse.specs.Squares.{inverse_of}
use Rattle.whole_rows.specs.Wholes.{sample_of_rows}
use Rattle.whole_solution.proofs.Same.{residual_same}
use Rattle.whole_solution.proofs.solution.WholeBasis+i64+WholeInverse.all_residuals.Goals as goal

pub returns-in_ok-made-in-None : goal.returns-in_ok-made-in-None
returns-in_ok-made-in-None c =
    let b = c.args.self.now in
    let s = b.inverse.now in
    let p = sample_of_rows (length s.columns) b.rows.now in
    let coef = c.args.solution.now.coef in
    let made = rw (c.as_slice-in-None.ensures) at c.in_ok-made-in-None.ensures.each in
    record {
      size = c.in_ok-made-in-None.ensures.size;
      each = λ i li. made i li ∙ residual_same p (share_at s.determinant coef) (coefficient p (slice_index b.basis.now.rows) (inverse_of s)) c.requires.solution.coef i;
    }
