use Rattle.std.proofs.Common.{◌≡◌, None, take}
use Rattle.design_matrix.specs.Lists.{first_some}
use Rattle.design_matrix.specs.Predicted.{unknown_fault}
use Rattle.design_matrix.proofs.predicted_row.check_levels.Given as goal

abbrev pub invariant-loop-term : goal.invariant-loop-term
invariant-loop-term l = first_some (λ t. first_some (unknown_fault l.frame l.kept l.fn.index) t.variables) (take l.term-index l.terms) ≡ None
