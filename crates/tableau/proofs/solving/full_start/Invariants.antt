use Rattle.std.proofs.Common.{◌≡◌, map, take, Some}
use Rattle.tableau.proofs.solving.full_start.Given as goal

abbrev pub invariant-loop-row : goal.invariant-loop-row
invariant-loop-row l = l.start ≡ map Some (take l.row-index l.rows)
