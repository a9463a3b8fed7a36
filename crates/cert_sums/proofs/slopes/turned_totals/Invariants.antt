use Rattle.std.proofs.Common.{◌≡◌, ℕ, ◌<◌, length}
use Rattle.rational_laws.specs.WholeLists.{whole_at}
use Rattle.cert_sums.specs.Slopes.{line_total}
use Rattle.cert_sums.proofs.slopes.turned_totals.Given as goal

abbrev pub invariant-loop-k : goal.invariant-loop-k
invariant-loop-k l = record {
  size : length l.made ≡ l.k;
  each : (k : ℕ) → k < l.k → whole_at l.made k ≡ line_total l.fn.part l.turn.rows.now l.turn.new.now k;
}
