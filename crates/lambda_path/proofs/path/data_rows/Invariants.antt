use Rattle.std.proofs.Common.{◌≡◌, map, take}
use Rattle.frac_core.specs.Values.{exact}
use Rattle.loss_model.specs.Values.{exact_row}
use Rattle.tv_penalty.specs.Operations.{NoneOverflows}
use Rattle.lambda_path.specs.Faults.{operations_from}
use Rattle.lambda_path.specs.Rows.{data_row}
use Rattle.lambda_path.proofs.path.data_rows.Given as goal

abbrev pub invariant-loop-number : goal.invariant-loop-number
invariant-loop-number l = record {
  made : map exact_row l.made ≡ map (data_row (exact l.tau)) (take l.number l.rows);
  fits : NoneOverflows (operations_from 0 (exact l.tau) (take l.number l.rows));
}
