-- The order is that beyond.
use Rattle.std.proofs.Common.{IsTrue, subst}
use Rattle.frac_core.specs.Values.{value as value128}
use Rattle.loss_model.specs.Problem.{sample}
use Rattle.cert_sums.specs.Ranks.{square, bound}
use Rattle.cert_sums.proofs.Orders.{beyond_from}
use Rattle.cert_sums.proofs.ranks.beyond_bound.Goals as goal

pub returns : goal.returns
returns c =
    let s = sample value128 c.args.whole.problem.now in
    let t = c.args.interval.now in
    let v = c.args.vertex.now in
    let b = c.args.basic.now in
    let found = c.in_ok-found.ensures {u = tt} in
    record {
      held = found.held;
      projection = found.projection;
      value = found.value;
      beyond = beyond_from (square s t v b) (bound s t v b) c.in_ok-found.found.order found.order (subst IsTrue c.is_gt.ensures c.if-not-is_gt.false);
    }
