use Rattle.std.specs.Prelude.{length, slice_index}
use Rattle.whole_inverse.specs.Squares.{inverse_of}
use Rattle.whole_rows.specs.Wholes.{sample_of_rows}
use Rattle.loss_model.specs.Sides.{side_in}
use Rattle.whole_solution.specs.Weighing.{AreWeights}
use Rattle.whole_solution.proofs.Put.{ArePut}
use Rattle.whole_solution.proofs.solution.WholeBasis+i64+WholeInverse.listed_sides.Given as goal

abbrev pub invariant-loop-k : goal.invariant-loop-k
invariant-loop-k l =
    let s = l.self.inverse.now in
    let p = sample_of_rows (length s.columns) l.self.rows.now in
    record {
      put : ArePut p (slice_index l.self.basis.now.rows) (inverse_of s) l.listed l.old l.sides l.k;
      weights : AreWeights p (side_in l.sides) l.weights;
    }
