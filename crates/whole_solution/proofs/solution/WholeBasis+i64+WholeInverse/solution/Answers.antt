-- No row is counted at first.
use Rattle.std.proofs.Common.{length, sym}
use Rattle.loss_model.specs.declared.vertex.Side.TheVariants.{Basic}
use Rattle.whole_rows.specs.Wholes.{sample_of_rows}
use Rattle.loss_model.specs.Sides.{side_in}
use Rattle.whole_solution.proofs.Same.{weights-same}
use Rattle.whole_solution.proofs.solution.WholeBasis+i64+WholeInverse.solution.Goals as goal

pub sided-requires-clause-before : goal.sided-requires-clause-before
sided-requires-clause-before c =
    let rows = c.args.self.now.rows.now in
    let p = sample_of_rows (length c.args.self.now.inverse.now.columns) rows in
    let none = rw (c.as_slice.ensures, c.requires.basis.size) at (c.in_ok-weights.ensures {u = tt} rows) in
    rw (c.as_slice-2.ensures) (weights-same p (λ i. Basic) (side_in c.in_ok-uncounted.uncounted) c.in_ok-weights.weights (λ i li. sym (c.in_ok-uncounted.ensures.each i li)) none)
