use Rattle.run_laws.proofs.Jobs.{long_certificate}
use Rattle.run_laws.proofs.Needed.{limit_needed, overflow_needed, dependence_needed}
use Rattle.run_laws.proofs.runs.needed.Goals as goal

pub returns : goal.returns
returns c =
    record {
      limit = λ words source source' out out' err err' place limit trail run. limit_needed c.path_is_askable.ensures.costs words source source' place limit trail run.cause;
      overflow = λ words source source' out out' err err' place trail spill run. overflow_needed c.path_is_askable.ensures.costs words source source' place trail spill run.cause;
      length = λ words source source' out out' err err' n run. long_certificate words source source' n run.cause;
      dependence = λ words source source' out out' err err' combination run. dependence_needed c.path_is_askable.ensures.costs words source source' combination run.cause;
    }
