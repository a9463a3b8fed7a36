use Rattle.std.proofs.Common.{◌≡◌, ℕ, ◌<◌, length}
use Rattle.whole_rows.specs.Wholes.{sample_of_rows}
use Rattle.whole_solution.specs.Ranges.{factor_at, AreWithin}
use Rattle.whole_solution.proofs.ranges.classes_of.Given as goal

abbrev pub invariant-loop-i : goal.invariant-loop-i
invariant-loop-i l = record {
  size : length l.classes ≡ l.i;
  each : (i : ℕ) → i < l.i → AreWithin (length l.middles) l.middles l.halves (factor_at l.classes i) ((sample_of_rows (length l.middles) l.rows).x i);
}
