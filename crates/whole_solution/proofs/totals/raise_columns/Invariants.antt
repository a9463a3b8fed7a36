use Rattle.std.proofs.Common.{◌≡◌, ℕ, ◌<◌, ◌≤◌, length}
use Rattle.rational_laws.specs.Rational.{◌+ℚ◌, ◌*ℚ◌, whole}
use Rattle.rational_laws.specs.WholeLists.{whole_at}
use Rattle.whole_solution.proofs.totals.raise_columns.Given as goal

abbrev pub invariant-loop-k : goal.invariant-loop-k
invariant-loop-k l = record {
  size : length l.totals ≡ length l.fn.totals;
  each : (k : ℕ) → k < l.k → whole_at l.totals k ≡ whole_at l.fn.totals k +ℚ (whole_at l.x k *ℚ whole l.weight);
  left : (k : ℕ) → l.k ≤ k → whole_at l.totals k ≡ whole_at l.fn.totals k;
}
