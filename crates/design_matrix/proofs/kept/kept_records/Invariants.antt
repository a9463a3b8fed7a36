use Rattle.std.proofs.Common.{◌≡◌, filter, map}
use Rattle.std.specs.List.{range_with_len}
use Rattle.data_frame.specs.Views.{lent_column}
use Rattle.design_matrix.specs.Cells.{is_kept}
use Rattle.design_matrix.specs.Views.{weights_seen}
use Rattle.design_matrix.proofs.kept.kept_records.Given as goal

abbrev pub invariant-loop-index : goal.invariant-loop-index
invariant-loop-index l =
    l.kept.items ≡ filter (is_kept (map lent_column l.used.columns.items) (weights_seen l.used.weights)) (range_with_len 0 l.index)
