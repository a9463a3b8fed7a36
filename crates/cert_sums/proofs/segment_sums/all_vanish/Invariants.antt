use Rattle.std.proofs.Common.{◌≡◌, ℕ, ◌<◌, pos}
use Rattle.rational_laws.specs.Rational.{whole}
use Rattle.cert_sums.specs.Slopes.{sum_at}
use Rattle.cert_sums.proofs.segment_sums.all_vanish.Given as goal

abbrev pub invariant-loop-k : goal.invariant-loop-k
invariant-loop-k l = (k : ℕ) → k < l.k → sum_at l.view.rows.now l.view.tally.now l.view.values.now l.view.reach.now k ≡ whole (pos 0)
