use Rattle.lambda_path.proofs.Paths.{path_has_full_rank, path_has_costs}
use Rattle.lambda_path.proofs.laws.path_is_askable.Goals as goal

pub returns : goal.returns
returns c = record { rank = path_has_full_rank; costs = path_has_costs }
