use Rattle.std.proofs.Common.{◌≡◌}
use Rattle.rational_laws.specs.Fraction.{rational}
use Rattle.loss_model.specs.Spill.{partial_sum}
use Rattle.loss_model.specs.Sign.{products_of}
use Rattle.loss_model.proofs.sites.sum_of_products.Given as goal

abbrev pub invariant-loop-k : goal.invariant-loop-k
invariant-loop-k g l = rational (g.F.Exact.value l.sum) ≡ partial_sum (products_of g.F.Exact.value l.fn.first l.sign l.left l.right) l.k
