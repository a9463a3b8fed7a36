use Rattle.std.proofs.Common.{◌≡◌}
use Rattle.rational_laws.specs.RationalSums.{sum_ℚ}
use Rattle.ratio.specs.Sums.{total}
use Rattle.nested_test.specs.Pairs.{pair_of}
use Rattle.nested_test.proofs.statistic.Pairs.row.Given as goal

abbrev pub invariant-loop-m : goal.invariant-loop-m
invariant-loop-m l = total l.terms ≡ sum_ℚ l.m (pair_of l.self l.j)
