-- All residuals give the sides.
use Rattle.std.proofs.Common.{length, slice_index, ◌∙◌}
use Rattle.basis_model.specs.Basis.{coefficient}
use Rattle.whole_inverse.specs.Shares.{share_at}
use Rattle.whole_inverse.specs.Squares.{inverse_of}
use Rattle.whole_rows.specs.Wholes.{sample_of_rows}
use Rattle.whole_solution.proofs.Same.{residual_same}
use Rattle.whole_solution.proofs.solution.WholeBasis+i64+WholeInverse.sided.Goals as goal

pub sides-requires-clause-residuals : goal.sides-requires-clause-residuals
sides-requires-clause-residuals c =
    let s = c.args.self.now.inverse.now in
    let p = sample_of_rows (length s.columns) c.args.self.now.rows.now in
    let made = rw (c.as_slice.ensures) at c.in_ok-residuals.ensures.each in
    rw (c.as_slice-2.ensures) (λ i li. made i li ∙ residual_same p (share_at s.determinant c.args.coef) (coefficient p (slice_index c.args.self.now.basis.now.rows) (inverse_of s)) c.requires.each i)

pub returns : goal.returns
returns c =
    let nearby = rw (c.as_slice-7.ensures) at (c.in_ok-nearby.ensures {u = tt}) in
    record {
      columns = c.requires.size;
      coef = c.requires.each;
      all_sides = c.in_ok-sides.ensures.size;
      sides = c.in_ok-sides.ensures.each;
      near = nearby.near;
      far = nearby.far;
      weights = rw (c.as_slice-3.ensures, c.requires.before.constant.size) at (c.in_ok-weights.ensures {u = tt});
      residuals = nearby.residuals;
    }
