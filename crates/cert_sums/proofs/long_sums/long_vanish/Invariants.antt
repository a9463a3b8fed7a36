use Rattle.std.specs.Prelude.{◌≡◌, ◌<◌, ℕ, pos}
use Rattle.rational_laws.specs.Rational.{whole}
use Rattle.cert_sums.specs.Slopes.{sum_at}
use Rattle.cert_sums.proofs.long_sums.long_vanish.Given as goal

abbrev pub invariant-loop-k : goal.invariant-loop-k
invariant-loop-k l = (k : ℕ) → k < l.k → sum_at l.view.rows.now l.view.tally.now l.view.values.now (record { scale = l.view.reach.now.scale; at = l.view.reach.now.at }) k ≡ whole (pos 0)
