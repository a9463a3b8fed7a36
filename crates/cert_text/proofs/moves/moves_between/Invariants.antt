use Rattle.std.proofs.Common.{◌≡◌, ◌++◌, drop}
use Rattle.cert_text.specs.Chains.{moves_from}
use Rattle.cert_text.proofs.moves.moves_between.Given as goal

abbrev pub invariant-loop-row : goal.invariant-loop-row
invariant-loop-row l = moves_from 0 l.earlier l.later ≡ l.found.items ++ moves_from l.row (drop l.row l.earlier) (drop l.row l.later)
