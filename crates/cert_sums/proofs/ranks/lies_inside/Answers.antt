-- The order is one of at most.
use Rattle.std.proofs.Common.{IsTrue, subst}
use Rattle.frac_core.specs.Values.{value as value128}
use Rattle.loss_model.specs.Problem.{sample}
use Rattle.cert_sums.specs.Ranks.{square, bound}
use Rattle.cert_sums.proofs.Orders.{most_from}
use Rattle.cert_sums.proofs.ranks.lies_inside.Goals as goal

pub returns-in-Some-clause-bound : goal.returns-in-Some-clause-bound
returns-in-Some-clause-bound c =
    let s = sample value128 c.args.whole.problem.now in
    let t = c.args.interval.now in
    let v = c.args.vertex.now in
    let b = c.args.basic.now in
    let found = c.in-Some.ensures {u = tt} in
    λ h. record {
      held = found.held;
      projection = found.projection;
      within = most_from (square s t v b) (bound s t v b) c.in-Some.found.order found.order (subst IsTrue c.is_le.ensures h);
    }
