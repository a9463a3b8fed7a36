use Rattle.std.proofs.Common.{◌≡◌, ℕ, ◌<◌, length, pos}
use Rattle.rational_laws.specs.Fraction.{rational}
use Rattle.rational_laws.specs.Rational.{◌*ℚ◌, whole}
use Rattle.frac_core.specs.Values.{value as value128}
use Rattle.loss_model.specs.Problem.{sample}
use Rattle.rational_laws.specs.WholeLists.{whole_at}
use Rattle.cert_sums.specs.Duals.{dual_of}
use Rattle.cert_sums.proofs.duals.duals_of.Given as goal

abbrev pub invariant-loop-i : goal.invariant-loop-i
invariant-loop-i l = record {
  size : length l.values ≡ l.i;
  each : (i : ℕ) → i < l.i → whole_at l.values i ≡ (whole (pos l.reach.scale) *ℚ whole (pos l.table.cost_scale)) *ℚ dual_of (sample value128 l.problem) (rational l.end.theta.now) l.end.vertex.now l.end.basic.now i;
}
