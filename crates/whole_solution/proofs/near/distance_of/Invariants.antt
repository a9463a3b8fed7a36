use Rattle.std.proofs.Common.{◌≤◌, ◌-◌}
use Rattle.whole_solution.proofs.near.distance_of.Given as goal

abbrev pub invariant-loop-low : goal.invariant-loop-low
invariant-loop-low l = record {
  order : l.low ≤ l.high;
  most : l.high ≤ 499;
}

abbrev pub decreases-loop-low : goal.decreases-loop-low
decreases-loop-low l = l.high - l.low
