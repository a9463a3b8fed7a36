use Rattle.std.specs.Prelude.{ℕ, ◌<◌, pos}
use Rattle.rational_laws.specs.Fraction.{rational}
use Rattle.rational_laws.specs.Rational.{◌+ℚ◌, ◌≤ℚ◌, whole}
use Rattle.loss_model.specs.Sample.{up_cost, down_cost}
use Rattle.loss_model.specs.Problem.{sample}
use Rattle.pivot_model.specs.Duals.{◌<ℚ◌}
use Rattle.test_kit.proofs.problems.has_costs.Given as goal

abbrev pub invariant-loop-row : goal.invariant-loop-row
invariant-loop-row g l = record {
  up : (i : ℕ) → i < l.row → whole (pos 0) ≤ℚ up_cost (sample g.F.Exact.value l.problem) (rational (g.F.Exact.value l.theta)) i;
  down : (i : ℕ) → i < l.row → whole (pos 0) ≤ℚ down_cost (sample g.F.Exact.value l.problem) (rational (g.F.Exact.value l.theta)) i;
  some : (i : ℕ) → i < l.row → whole (pos 0) <ℚ (up_cost (sample g.F.Exact.value l.problem) (rational (g.F.Exact.value l.theta)) i +ℚ down_cost (sample g.F.Exact.value l.problem) (rational (g.F.Exact.value l.theta)) i);
}
