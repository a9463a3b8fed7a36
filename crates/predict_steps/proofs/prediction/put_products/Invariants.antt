use Rattle.std.proofs.Common.{◌≡◌}
use Rattle.rational_laws.specs.Rational.{◌+ℚ◌, ◌*ℚ◌}
use Rattle.rational_laws.specs.RationalSums.{sum_ℚ}
use Rattle.ratio.specs.Sums.{total}
use Rattle.loss_model.specs.Problem.{number_at, value_at}
use Rattle.predict_steps.proofs.prediction.put_products.Given as goal

abbrev pub invariant-loop-k : goal.invariant-loop-k
invariant-loop-k g l = total l.terms ≡ total l.fn.terms +ℚ sum_ℚ l.k (λ k. value_at g.F.Exact.value l.x k *ℚ number_at l.coef k)
