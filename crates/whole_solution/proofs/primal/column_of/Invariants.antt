use Rattle.std.proofs.Common.{◌≡◌, ℕ, ℤ, ◌<◌, length}
use Rattle.whole_inverse.specs.Shares.{share_at, shares}
use Rattle.whole_solution.proofs.primal.column_of.Given as goal

abbrev pub invariant-loop-j : goal.invariant-loop-j
invariant-loop-j l = record {
  size : length l.made ≡ l.j;
  each : (d : ℤ) (j : ℕ) → j < l.j → share_at d l.made j ≡ shares l.inverse.columns d l.k j;
}
