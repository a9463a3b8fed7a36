use Rattle.std.proofs.Common.{◌≡◌, drop}
use Rattle.rq_input.specs.Tested.{first_missing}
use Rattle.rq_input.proofs.tested.first_missing.Given as goal

abbrev pub invariant-loop-column : goal.invariant-loop-column
invariant-loop-column l = first_missing l.columns l.tested ≡ first_missing l.columns (drop l.column-index l.tested)
