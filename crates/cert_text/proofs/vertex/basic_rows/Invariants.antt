use Rattle.std.proofs.Common.{◌≡◌, ◌++◌, drop}
use Rattle.cert_text.specs.Kept.{basic_rows, basic_from}
use Rattle.cert_text.proofs.vertex.basic_rows.Given as goal

abbrev pub invariant-loop-row : goal.invariant-loop-row
invariant-loop-row l = basic_rows l.sides ≡ l.found ++ basic_from l.row (drop l.row l.sides)
