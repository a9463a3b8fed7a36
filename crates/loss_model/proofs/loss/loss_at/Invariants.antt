use Rattle.std.proofs.Common.{◌≡◌}
use Rattle.rational_laws.specs.Fraction.{rational}
use Rattle.loss_model.specs.Problem.{value_at, sample}
use Rattle.loss_model.specs.Spill.{partial_sum, loss_products}
use Rattle.loss_model.proofs.loss.loss_at.Given as goal

abbrev pub invariant-loop-row : goal.invariant-loop-row
invariant-loop-row g l =
    rational (g.F.Exact.value l.total)
    ≡ partial_sum (loss_products (sample g.F.Exact.value l.problem) (rational (g.F.Exact.value l.theta)) (value_at g.F.Exact.value l.coef)) l.row
