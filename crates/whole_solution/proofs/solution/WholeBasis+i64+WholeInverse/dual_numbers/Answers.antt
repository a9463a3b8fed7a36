-- The totals of either part balance to its dual values.
use Rattle.std.proofs.Common.{length, slice_index, ◌∙◌}
use Rattle.basis_model.specs.declared.part.Part.TheVariants.{Constant, Linear}
use Rattle.whole_inverse.specs.Squares.{inverse_of}
use Rattle.whole_rows.specs.Wholes.{sample_of_rows}
use Rattle.loss_model.specs.Sides.{side_in}
use Rattle.whole_solution.proofs.Same.{duals_from}
use Rattle.whole_solution.proofs.solution.WholeBasis+i64+WholeInverse.dual_numbers.Goals as goal

pub returns : goal.returns
returns c =
    let s = c.args.self.now.inverse.now in
    let p = sample_of_rows (length s.columns) c.args.self.now.rows.now in
    let at = slice_index c.args.self.now.basis.now.rows in
    let sided = c.requires.sided in
    let sides = c.args.sided.now.sides in
    let held = c.args.sided.now.weights in
    let weights = sided.weights in
    let constant = rw (c.as_slice.ensures, weights.constant.size) at c.in_ok-constant.ensures in
    let linear = rw (c.as_slice-2.ensures, weights.linear.size) at c.in_ok-linear.ensures in
    record {
      constants = constant.size;
      constant = λ j lj. constant.each s.determinant j lj ∙ duals_from p at (inverse_of s) (side_in sides) Constant held.constant sided.sides weights.constant j;
      linears = linear.size;
      linear = λ j lj. linear.each s.determinant j lj ∙ duals_from p at (inverse_of s) (side_in sides) Linear held.linear sided.sides weights.linear j;
    }
