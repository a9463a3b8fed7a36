use Rattle.std.proofs.Common.{◌≡◌, length}
use Rattle.whole_solution.proofs.ranges.Ranges.of.Given as goal

abbrev pub invariant-loop-k : goal.invariant-loop-k
invariant-loop-k l = record {
  middles : length l.middles ≡ l.k;
  halves : length l.halves ≡ l.k;
}
