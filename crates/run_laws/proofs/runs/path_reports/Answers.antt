use Rattle.run_laws.proofs.LeastPaths.{path_least}
use Rattle.run_laws.proofs.runs.path_reports.Goals as goal

pub returns : goal.returns
returns c = λ words source source' out out' err err' fit run. path_least c.path.ensures.loss c.path.ensures.segments words source source' fit run.cause
