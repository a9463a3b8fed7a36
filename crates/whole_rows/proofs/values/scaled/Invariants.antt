use Rattle.std.proofs.Common.{◌≡◌, ℕ, ◌<◌, length}
use Rattle.rational_laws.specs.Rational.{◌*ℚ◌}
use Rattle.loss_model.specs.Problem.{value_at}
use Rattle.whole_rows.specs.Wholes.{factor_at}
use Rattle.whole_rows.proofs.values.scaled.Given as goal

abbrev pub invariant-loop-k : goal.invariant-loop-k
invariant-loop-k g l = record {
  size : length l.made ≡ l.k;
  each : (k : ℕ) → k < l.k → value_at g.F.Exact.value l.made k ≡ value_at g.F.Exact.value l.values k *ℚ factor_at l.factors k;
}
