use Rattle.std.proofs.Common.{◌≡◌, ◌-◌, map, take}
use Rattle.design_matrix.proofs.predicted_row.kept_in.Given as goal

abbrev pub invariant-loop-row : goal.invariant-loop-row
invariant-loop-row l = l.records.items ≡ map (λ r. r.rec - 1) (take l.row-index l.rows)
