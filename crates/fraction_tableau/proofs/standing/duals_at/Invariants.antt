use Rattle.std.proofs.Common.{◌≡◌, ℕ, ◌<◌, length}
use Rattle.rational_laws.specs.Fraction.{rational}
use Rattle.rational_laws.specs.Rational.{◌+ℚ◌, ◌*ℚ◌}
use Rattle.loss_model.specs.Problem.{value_at}
use Rattle.fraction_tableau.proofs.standing.duals_at.Given as goal

abbrev pub invariant-loop-position : goal.invariant-loop-position
invariant-loop-position g l = record {
  size : length l.made ≡ l.position;
  each : (j : ℕ) → j < l.position → value_at g.F.Exact.value l.made j ≡ value_at g.F.Exact.value l.constant j +ℚ (value_at g.F.Exact.value l.linear j *ℚ rational (g.F.Exact.value l.theta));
}
