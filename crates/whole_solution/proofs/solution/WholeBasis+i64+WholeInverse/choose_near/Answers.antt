-- Rows that were chosen are near, and all others far.
use Rattle.std.proofs.Common.{rules, ◌≡◌, length, slice_index, to_z, of_z, ◌∙◌}
use mir.Syntax.{w128}
use Rattle.basis_model.specs.Basis.{coefficient}
use Rattle.whole_inverse.specs.Shares.{share_at}
use Rattle.whole_inverse.specs.Squares.{inverse_of}
use Rattle.whole_rows.specs.Wholes.{sample_of_rows}
use Rattle.loss_model.specs.Sides.{side_in}
use Rattle.whole_solution.proofs.Same.{residual_same}
use Rattle.whole_solution.proofs.Chosen.{near_from_chosen, far_from_chosen}
use Rattle.whole_solution.proofs.solution.WholeBasis+i64+WholeInverse.choose_near.Goals as goal

pub returns : goal.returns
returns c =
    let b = c.args.self.now in
    let s = b.inverse.now in
    let p = sample_of_rows (length s.columns) b.rows.now in
    let d = s.determinant in
    let q = c.requires in
    let at_basis = coefficient p (slice_index b.basis.now.rows) (inverse_of s) in
    let sides = side_in c.args.sides.now in
    let residuals = c.args.residuals in
    let coef = c.args.coef.now in
    let near = c.in_ok-near.near in
    let det : to_z w128 (of_z w128 c.determinant.result) ≡ c.determinant.result = search rules in
    let chosen = rw (c.as_slice.ensures, det, c.determinant.ensures.value) at (c.in_ok-near.ensures {u = tt}) in
    let positive = q.basis.shape.positive in
    record {
      near = near_from_chosen p sides residuals coef d c.args.choice.ranges near chosen q.all q.size positive q.ranges q.residuals;
      far = far_from_chosen p sides residuals coef d c.args.choice.ranges near chosen q.all q.size positive q.ranges q.residuals at_basis q.each;
      residuals = record { size = q.all; each = λ i li. q.residuals i li ∙ residual_same p (share_at d coef) at_basis q.each i };
    }
