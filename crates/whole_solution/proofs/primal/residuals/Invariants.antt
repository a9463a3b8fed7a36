use Rattle.std.proofs.Common.{◌≡◌, ℕ, ◌<◌, length}
use Rattle.rational_laws.specs.Rational.{◌-ℚ◌, whole}
use Rattle.whole_inverse.specs.Shares.{share_at}
use Rattle.whole_rows.specs.Wholes.{of_whole}
use Rattle.whole_solution.proofs.primal.residuals.Given as goal

abbrev pub invariant-loop-i : goal.invariant-loop-i
invariant-loop-i l = record {
  size : length l.made ≡ l.i;
  each : (i : ℕ) → i < l.i → share_at l.determinant l.made i ≡ of_whole l.rows (λ r. whole r.y) i -ℚ share_at l.determinant l.fits i;
}
