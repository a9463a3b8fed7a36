use Rattle.std.proofs.Common.{◌≡◌, map, take}
use Rattle.data_frame.specs.Views.{lent_column}
use Rattle.design_matrix.specs.Cells.{column_of}
use Rattle.design_matrix.proofs.predicted.columns_named.Given as goal

abbrev pub invariant-loop-name : goal.invariant-loop-name
invariant-loop-name l = map lent_column l.columns.items ≡ map (column_of l.frame) (map (λ n. n.now) (take l.name-index l.names))
