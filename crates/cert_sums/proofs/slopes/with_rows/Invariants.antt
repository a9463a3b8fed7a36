use Rattle.std.proofs.Common.{◌≡◌, get_or}
use Rattle.rational_laws.specs.Rational.{◌+ℚ◌, ◌*ℚ◌, whole}
use Rattle.rational_laws.specs.RationalSums.{sum_ℚ}
use Rattle.rational_laws.specs.WholeLists.{whole_at}
use Rattle.cert_sums.specs.Sums.{cell_at}
use Rattle.cert_sums.proofs.slopes.with_rows.Given as goal

abbrev pub invariant-loop-j : goal.invariant-loop-j
invariant-loop-j l = whole l.sum ≡ whole l.first +ℚ sum_ℚ l.j (λ j. cell_at l.rows l.place (get_or l.list j 0) *ℚ whole_at l.values j)
