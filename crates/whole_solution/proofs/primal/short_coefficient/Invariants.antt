use Rattle.std.proofs.Common.{◌≡◌, ℤ}
use Rattle.rational_laws.specs.Rational.{◌*ℚ◌}
use Rattle.rational_laws.specs.RationalSums.{sum_ℚ}
use Rattle.rational_laws.specs.WholeLists.{whole_at}
use Rattle.whole_inverse.specs.Shares.{share, shares}
use Rattle.whole_solution.proofs.primal.short_coefficient.Given as goal

abbrev pub invariant-loop-j : goal.invariant-loop-j
invariant-loop-j l = (d : ℤ) → share l.sum d ≡ sum_ℚ l.j (λ j. shares l.inverse.columns d l.k j *ℚ whole_at l.ys j)
