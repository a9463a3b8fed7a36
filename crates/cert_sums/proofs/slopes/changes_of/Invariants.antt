use Rattle.std.proofs.Common.{◌≡◌, ℕ, ◌<◌, length, get_or}
use Rattle.rational_laws.specs.WholeLists.{whole_at}
use Rattle.cert_sums.specs.Slopes.{part_change}
use Rattle.cert_sums.proofs.slopes.changes_of.Given as goal

abbrev pub invariant-loop-j : goal.invariant-loop-j
invariant-loop-j l = record {
  size : length l.made ≡ l.j;
  each : (j : ℕ) → j < l.j → whole_at l.made j ≡ part_change l.part l.turn.rows.now l.turn.old.now l.turn.new.now (get_or l.turn.unsettled.now j 0);
}
