-- All rows but both of the joint keep their sides.
use Rattle.std.proofs.Common.{length, slice_index}
use Rattle.whole_inverse.specs.Squares.{inverse_of}
use Rattle.whole_rows.specs.Wholes.{sample_of_rows}
use Rattle.whole_solution.proofs.Past.{sides_past}
use Rattle.whole_solution.proofs.solution.WholeBasis+i64+WholeInverse.sided_past_joint.Goals as goal

pub returns : goal.returns
returns c =
    let b = c.args.self.now in
    let s = b.inverse.now in
    let p = sample_of_rows (length s.columns) b.rows.now in
    let at = slice_index b.basis.now.rows in
    let turned = c.in_ok-turned.ensures in
    let made = c.in_ok-turned.turned.sides in
    let each = rw (c.as_slice-2.ensures) at turned.each in
    let held = rw (c.as_slice-3.ensures, c.requires.basis.size) at (c.holds_basis.ensures c.if-not-holds_basis.false) in
    let nearby = rw (c.as_slice-5.ensures) at (c.in_ok-nearby.ensures {u = tt}) in
    record {
      columns = c.in_ok-coef.ensures.size;
      coef = c.in_ok-coef.ensures.each;
      all_sides = turned.size;
      sides = sides_past p at (inverse_of s) c.args.before.now.sides c.args.met c.requires.past made each turned.listed held;
      near = nearby.near;
      far = nearby.far;
      weights = turned.weights;
      residuals = nearby.residuals;
    }
