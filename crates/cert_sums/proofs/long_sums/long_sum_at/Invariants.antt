use Rattle.std.specs.Prelude.{◌≡◌, get_or, pos}
use Rattle.rational_laws.specs.Rational.{◌+ℚ◌, ◌*ℚ◌, whole}
use Rattle.rational_laws.specs.RationalSums.{sum_ℚ}
use Rattle.rational_laws.specs.WholeLists.{whole_at}
use Rattle.cert_sums.specs.Sums.{cell_at}
use Rattle.cert_sums.proofs.long_sums.long_sum_at.Given as goal

abbrev pub invariant-loop-j : goal.invariant-loop-j
invariant-loop-j l =
    whole l.sum ≡ ((whole (pos l.view.reach.now.scale) *ℚ whole_at l.view.tally.now.starts l.place) +ℚ (whole l.view.reach.now.at *ℚ whole_at l.view.tally.now.slopes l.place))
    +ℚ sum_ℚ l.j (λ j. cell_at l.view.rows.now l.place (get_or l.list j 0) *ℚ whole_at l.view.values.now j)
