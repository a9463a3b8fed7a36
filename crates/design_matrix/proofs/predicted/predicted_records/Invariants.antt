use Rattle.std.proofs.Common.{◌≡◌, ◌+◌, filter, map}
use Rattle.std.specs.List.{range_with_len}
use Rattle.design_matrix.specs.Predicted.{is_predicted}
use Rattle.design_matrix.proofs.predicted.predicted_records.Given as goal

abbrev pub invariant-loop-index : goal.invariant-loop-index
invariant-loop-index l = l.records ≡ map (λ i. i + 1) (filter (is_predicted l.frame l.model) (range_with_len 0 l.index))
