use Rattle.std.proofs.Common.{◌≡◌, map, take}
use Rattle.frac_core.specs.Values.{narrow_value, value as wide_value}
use Rattle.loss_model.specs.Widths.{row_by}
use Rattle.loss_model.proofs.narrowing.narrow_rows.Given as goal

abbrev pub invariant-loop-row : goal.invariant-loop-row
invariant-loop-row l = map (row_by narrow_value) l.made ≡ map (row_by wide_value) (take l.row-index l.rows)
