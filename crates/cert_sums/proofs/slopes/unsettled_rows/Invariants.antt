use Rattle.std.proofs.Common.{◌≡◌}
use Rattle.cert_sums.specs.Slopes.{unsettled_rows}
use Rattle.cert_sums.proofs.slopes.unsettled_rows.Given as goal

abbrev pub invariant-loop-i : goal.invariant-loop-i
invariant-loop-i l = l.made ≡ unsettled_rows l.old l.new l.i
