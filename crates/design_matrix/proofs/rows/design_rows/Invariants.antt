use Rattle.std.proofs.Common.{◌≡◌, ◌<◌, ℕ, get_or, map, take}
use Rattle.data_frame.specs.Views.{lent_column}
use Rattle.design_matrix.specs.Designs.{RecordFits, exact_row, row_of}
use Rattle.design_matrix.specs.Lists.{each}
use Rattle.design_matrix.specs.Views.{columns_seen, weights_seen}
use Rattle.design_matrix.proofs.rows.design_rows.Given as goal

abbrev pub invariant-loop-place : goal.invariant-loop-place
invariant-loop-place l = record {
  made : map exact_row l.rows.items
      ≡ each (row_of l.coder.frame.now (lent_column l.used.response) l.coder.model.now.offsets (weights_seen l.used.weights) (columns_seen l.columns)) 0 (take l.place l.records);
  fits : (q : ℕ) → q < l.place → RecordFits l.coder.frame.now l.coder.model.now (columns_seen l.columns) q (get_or l.records q 0);
}
