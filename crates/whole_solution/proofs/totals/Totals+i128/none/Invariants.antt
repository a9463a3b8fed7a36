use Rattle.std.proofs.Common.{◌≡◌, ℕ, ◌<◌, length, pos}
use Rattle.rational_laws.specs.Rational.{whole}
use Rattle.rational_laws.specs.WholeLists.{whole_at}
use Rattle.whole_solution.proofs.totals.Totals+i128.none.Given as goal

abbrev pub invariant-loop : goal.invariant-loop
invariant-loop l = record {
  size : length l.made ≡ l.counter;
  each : (k : ℕ) → k < l.counter → whole_at l.made k ≡ whole (pos 0);
}
