use Rattle.walk_model.proofs.Unique.{one_walking_step}
use Rattle.walk_model.proofs.Trails.{one_process, one_interval}
use Rattle.walk_model.proofs.laws.one_walk.Goals as goal

pub returns : goal.returns
returns g c =
    record {
      step = one_walking_step;
      process = λ p lo hi now trail other basis limit costs costs' u stop short. one_process p lo hi costs costs' now trail other basis limit u stop short;
      interval = λ p tau bound k trail other basis limit costs u risen fallen short. one_interval p tau k bound costs trail other basis limit u risen fallen short;
    }
