use Rattle.std.specs.Prelude.{◌≡◌, ◌<◌, ℕ, length, get_or}
use Rattle.rational_laws.specs.WholeLists.{whole_at}
use Rattle.cert_sums.specs.Slopes.{basic_at}
use Rattle.cert_sums.proofs.long_sums.long_values.Given as goal

abbrev pub invariant-loop-j : goal.invariant-loop-j
invariant-loop-j l = record {
  size : length l.made ≡ l.j;
  each : (j : ℕ) → j < l.j → whole_at l.made j ≡ basic_at l.scale l.cost_scale l.end.vertex.now l.end.basic.now (get_or l.list j 0);
}
