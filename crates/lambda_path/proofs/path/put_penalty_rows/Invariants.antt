use Rattle.std.proofs.Common.{◌≡◌, ◌++◌, map, take}
use Rattle.loss_model.specs.Values.{exact_row}
use Rattle.tv_penalty.specs.Smoothings.{exact_penalty}
use Rattle.lambda_path.specs.Rows.{penalty_row}
use Rattle.lambda_path.proofs.path.put_penalty_rows.Given as goal

abbrev pub invariant-loop-penalty : goal.invariant-loop-penalty
invariant-loop-penalty l =
    map exact_row l.rows ≡ map exact_row l.initial.rows ++ map (λ r. penalty_row (exact_penalty r)) (take l.penalty-index l.penalties)
