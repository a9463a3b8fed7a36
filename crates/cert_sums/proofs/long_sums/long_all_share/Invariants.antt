use Rattle.std.specs.Prelude.{◌≡◌, ◌<◌, ℕ, get_or}
use Rattle.cert_sums.specs.Slopes.{end_dual}
use Rattle.cert_sums.proofs.long_sums.long_all_share.Given as goal

abbrev pub invariant-loop-j : goal.invariant-loop-j
invariant-loop-j l = (k d : ℕ) → k < l.j → end_dual l.problem l.left.theta.now l.left.vertex.now l.left.basic.now (get_or l.list k d) ≡ end_dual l.problem l.right.theta.now l.right.vertex.now l.right.basic.now (get_or l.list k d)
