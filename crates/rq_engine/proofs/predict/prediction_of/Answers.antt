use Rattle.std.proofs.Common.{refl}
use Rattle.rq_engine.proofs.Predicting.{joined}
use Rattle.rq_engine.proofs.predict.prediction_of.Goals as goal

pub returns : goal.returns
returns c lo hi covers =
    let process = c.args.process.now in
    let row = c.args.row.now in
    let are = rw c.as_slice.ensures at (rw c.as_slice-2.ensures at c.in_ok-steps.ensures) in
    record {
      named = refl;
      steps = are;
      lowest_steps = rw c.as_slice-4.ensures at c.all_lowest_steps.ensures;
      lowest = rw c.as_slice-5.ensures at c.all_lowest_steps-2.ensures;
      rearranged = rw c.as_slice-3.ensures at (c.in_ok-rearranged.ensures lo hi (rw c.as_slice-3.ensures (joined process.segments row c.args.problem.now c.cover.ensures _ lo hi covers c.in_ok-steps.steps are)));
    }
