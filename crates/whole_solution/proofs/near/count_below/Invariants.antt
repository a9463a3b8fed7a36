use Rattle.std.proofs.Common.{◌≤◌}
use Rattle.whole_solution.proofs.near.count_below.Given as goal

abbrev pub invariant-loop-i : goal.invariant-loop-i
invariant-loop-i l = l.count ≤ l.i
