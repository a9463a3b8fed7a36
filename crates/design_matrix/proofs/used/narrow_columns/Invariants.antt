use Rattle.std.proofs.Common.{◌≡◌, None, map, take}
use Rattle.data_frame.specs.Views.{lent_column}
use Rattle.design_matrix.specs.Cells.{column_of}
use Rattle.design_matrix.specs.Faults.{wide_fault}
use Rattle.design_matrix.specs.Lists.{first_some}
use Rattle.design_matrix.proofs.used.narrow_columns.Given as goal

abbrev pub invariant-loop-name : goal.invariant-loop-name
invariant-loop-name l = record {
  found : map lent_column l.columns.items ≡ map (column_of l.frame) (map (λ n. n.now) (take l.name-index l.names));
  sound : first_some (λ n. wide_fault n (column_of l.frame n)) (map (λ n. n.now) (take l.name-index l.names)) ≡ None;
}
