use Rattle.std.specs.Prelude.{ℕ, ◌<◌}
use Rattle.rational_laws.specs.Fraction.{rational}
use Rattle.frac_core.specs.Values.{value as value128}
use Rattle.loss_model.specs.Problem.{sample}
use Rattle.cert_sums.specs.Within.{HasCosts}
use Rattle.cert_sums.proofs.within.rows_stand.Given as goal

abbrev pub invariant-loop-i : goal.invariant-loop-i
invariant-loop-i l = (i : ℕ) → i < l.i → HasCosts (sample value128 l.whole.problem.now) (rational (value128 l.fn.theta)) i
