use Rattle.std.proofs.Common.{◌≡◌, ℕ, Some, map, take}
use Rattle.rank_inversion.proofs.column_test.taken.Given as goal

abbrev pub invariant-loop-row : goal.invariant-loop-row
invariant-loop-row l = l.start ≡ map (λ (i : ℕ). Some i) (take l.row-index l.rows)
