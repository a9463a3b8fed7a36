use Rattle.std.proofs.Common.{◌≡◌, None}
use Rattle.std.specs.List.{range_with_len}
use Rattle.design_matrix.specs.Faults.{weight_fault}
use Rattle.design_matrix.specs.Lists.{first_some}
use Rattle.design_matrix.specs.Views.{weights_seen}
use Rattle.design_matrix.proofs.weights.check_weights.Given as goal

abbrev pub invariant-loop-index : goal.invariant-loop-index
invariant-loop-index l = first_some (weight_fault (weights_seen l.weights)) (range_with_len 0 l.index) ≡ None
