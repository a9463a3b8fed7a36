use Rattle.std.proofs.Common.{◌≡◌}
use Rattle.rational_laws.specs.Rational.{◌*ℚ◌, whole}
use Rattle.rational_laws.specs.RationalSums.{sum_ℚ}
use Rattle.gram_check.specs.Weighted.{weighted}
use Rattle.gram_check.proofs.matrix.Table.long_entry.Given as goal

abbrev pub invariant-loop-i : goal.invariant-loop-i
invariant-loop-i l = whole l.sum ≡ sum_ℚ l.i (λ i. weighted l.self.rows.now i l.k *ℚ weighted l.self.rows.now i l.l)
