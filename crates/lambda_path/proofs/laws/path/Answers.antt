use Rattle.lambda_path.proofs.Paths.{path_loss_is, sum_falls, sum_never_rises}
use Rattle.lambda_path.proofs.laws.path.Goals as goal

pub returns : goal.returns
returns c = record { loss = path_loss_is; falls = sum_falls; segments = sum_never_rises }
