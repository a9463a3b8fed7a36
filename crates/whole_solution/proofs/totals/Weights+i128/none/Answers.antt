-- No row is counted.
use Rattle.basis_model.specs.declared.part.Part.TheVariants.{Constant, Linear}
use Rattle.whole_rows.specs.Wholes.{sample_of_rows}
use Rattle.whole_solution.proofs.Moved.{none_weigh}
use Rattle.whole_solution.proofs.totals.Weights+i128.none.Goals as goal

pub returns : goal.returns
returns c = λ rows.
    let p = sample_of_rows c.args.columns rows in
    let constant = c.in_ok-constant.ensures in
    let linear = c.in_ok-linear.ensures in
    record {
      constant = none_weigh p Constant c.in_ok-constant.constant constant.size constant.columns constant.response;
      linear = none_weigh p Linear c.in_ok-linear.linear linear.size linear.columns linear.response;
    }
