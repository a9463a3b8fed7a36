use Rattle.std.proofs.Common.{ℕ, ℤ, ◌<◌, ◌≤◌, unsigned_abs, get_or}
use Rattle.std.specs.List.{All}
use Rattle.whole_rows.specs.declared.rows.WholeRow.{WholeRow}
use Rattle.whole_rows.proofs.limit.limit_of.Given as goal

abbrev pub invariant-loop-i : goal.invariant-loop-i
invariant-loop-i l = (j : ℕ) (r : WholeRow ℤ) → j < l.i → All (λ e. unsigned_abs e ≤ l.top) (get_or l.rows j r).x
