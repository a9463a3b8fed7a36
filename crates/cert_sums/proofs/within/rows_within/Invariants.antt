use Rattle.std.specs.Prelude.{ℕ, ◌<◌}
use Rattle.rational_laws.specs.Fraction.{rational}
use Rattle.frac_core.specs.Values.{value as value128}
use Rattle.loss_model.specs.Problem.{sample}
use Rattle.loss_model.specs.Vertex.{basic_value}
use Rattle.cert_sums.specs.Duals.{side_in}
use Rattle.cert_sums.specs.Within.{IsWithinCosts}
use Rattle.cert_sums.proofs.within.rows_within.Given as goal

abbrev pub invariant-loop-i : goal.invariant-loop-i
invariant-loop-i l = (i : ℕ) → i < l.i → IsWithinCosts (sample value128 l.whole.problem.now) (rational l.end.theta.now) (side_in l.end.vertex.now i) (basic_value l.end.vertex.now l.end.basic.now i) i
