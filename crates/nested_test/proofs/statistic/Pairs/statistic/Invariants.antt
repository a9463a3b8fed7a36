use Rattle.std.proofs.Common.{◌≡◌}
use Rattle.rational_laws.specs.RationalSums.{sum_ℚ}
use Rattle.ratio.specs.Sums.{total}
use Rattle.nested_test.specs.Pairs.{sum_of_row}
use Rattle.nested_test.proofs.statistic.Pairs.statistic.Given as goal

abbrev pub invariant-loop-j : goal.invariant-loop-j
invariant-loop-j l = total l.sums ≡ sum_ℚ l.j (sum_of_row l.self)
