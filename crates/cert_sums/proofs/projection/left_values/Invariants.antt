use Rattle.std.proofs.Common.{◌≡◌, ℕ, ◌<◌, length}
use Rattle.rational_laws.specs.WholeLists.{whole_at}
use Rattle.cert_sums.specs.Ranks.{left_at}
use Rattle.cert_sums.proofs.projection.left_values.Given as goal

abbrev pub invariant-loop-i : goal.invariant-loop-i
invariant-loop-i l = record {
  size : length l.made ≡ l.i;
  each : (i : ℕ) → i < l.i → whole_at l.made i ≡ left_at l.table.rows l.numbers i;
}
