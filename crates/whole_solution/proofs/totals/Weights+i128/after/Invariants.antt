use Rattle.std.specs.Prelude.{length}
use Rattle.basis_model.specs.declared.part.Part.TheVariants.{Constant, Linear}
use Rattle.whole_rows.specs.Wholes.{sample_of_rows}
use Rattle.loss_model.specs.Sides.{side_in}
use Rattle.whole_solution.proofs.Moved.{AreMoved}
use Rattle.whole_solution.proofs.totals.Weights+i128.after.Given as goal

abbrev pub invariant-loop-i : goal.invariant-loop-i
invariant-loop-i l =
    let p = sample_of_rows (length l.self.constant.columns) l.rows in
    record {
      constant : AreMoved p (side_in l.old) (side_in l.new) Constant l.self.constant l.weights.constant l.i;
      linear : AreMoved p (side_in l.old) (side_in l.new) Linear l.self.linear l.weights.linear l.i;
    }
