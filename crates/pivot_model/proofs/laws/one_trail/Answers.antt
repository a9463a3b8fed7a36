use Rattle.pivot_model.proofs.Unique.{one_step, no_step, one_trail}
use Rattle.pivot_model.proofs.laws.one_trail.Goals as goal

pub returns : goal.returns
returns g c =
    record {
      step = one_step;
      stop = no_step;
      trail = λ p theta trail other basis limit costs u stop short. one_trail p theta costs trail other basis limit u stop short;
    }
