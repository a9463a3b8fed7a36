use Rattle.std.proofs.Common.{◌≡◌, None, take}
use Rattle.design_matrix.specs.Lists.{first_some}
use Rattle.design_matrix.specs.Predicted.{unknown_fault}
use Rattle.design_matrix.proofs.predicted_row.check_variables.Given as goal

abbrev pub invariant-loop-variable : goal.invariant-loop-variable
invariant-loop-variable l = first_some (unknown_fault l.frame l.kept l.fn.index) (take l.variable-index l.variables) ≡ None
