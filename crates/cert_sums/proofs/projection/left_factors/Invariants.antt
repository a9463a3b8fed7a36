use Rattle.std.proofs.Common.{◌≡◌, ℕ, ◌<◌, length, pos}
use Rattle.rational_laws.specs.Rational.{◌-ℚ◌, ◌*ℚ◌, whole}
use Rattle.rational_laws.specs.Terms.{delta}
use Rattle.loss_model.specs.Problem.{number_at}
use Rattle.rational_laws.specs.WholeLists.{whole_at}
use Rattle.cert_sums.proofs.projection.left_factors.Given as goal

abbrev pub invariant-loop-k : goal.invariant-loop-k
invariant-loop-k l = record {
  size : length l.made ≡ l.k;
  each : (k : ℕ) → k < l.k → whole_at l.made k ≡ whole (pos l.scale) *ℚ (delta k l.column -ℚ number_at l.factors k);
}
