use Rattle.std.proofs.Common.{◌≡◌, ℕ, ◌<◌, length}
use Rattle.std.specs.Prelude.{slice_index}
use Rattle.rational_laws.specs.Rational.{whole}
use Rattle.rational_laws.specs.WholeLists.{whole_at}
use Rattle.whole_rows.specs.Wholes.{of_whole}
use Rattle.whole_solution.proofs.primal.responses.Given as goal

abbrev pub invariant-loop-j : goal.invariant-loop-j
invariant-loop-j l = record {
  size : length l.made ≡ l.j;
  each : (j : ℕ) → j < l.j → whole_at l.made j ≡ of_whole l.rows (λ r. whole r.y) (slice_index l.basis j);
}
