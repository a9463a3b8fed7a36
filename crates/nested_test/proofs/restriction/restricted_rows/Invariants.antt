use Rattle.std.proofs.Common.{◌≡◌, map, take}
use Rattle.nested_test.specs.Restricted.{restricted_row}
use Rattle.nested_test.proofs.restriction.restricted_rows.Given as goal

abbrev pub invariant-loop-row : goal.invariant-loop-row
invariant-loop-row g l = l.made ≡ map (restricted_row l.tested) (take l.row-index l.rows)
