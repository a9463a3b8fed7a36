-- Values within their costs, and sums of whole numbers.
use Rattle.rational_laws.specs.Fraction.{rational}
use Rattle.frac_core.specs.Values.{value as value128}
use Rattle.loss_model.specs.Problem.{sample}
use Rattle.loss_model.specs.Vertex.{basic_value}
use Rattle.cert_sums.specs.Duals.{side_in, dual_of}
use Rattle.cert_sums.proofs.Costs.{by_sides}
use Rattle.cert_sums.proofs.ranks.statistic_at.Goals as goal

pub returns-clause-held : goal.returns-clause-held
returns-clause-held c =
    let p = c.args.whole.problem.now in
    let v = c.args.end.vertex.now in
    let theta = rational c.args.end.theta.now in
    let basic = basic_value v c.args.end.basic.now in
    record {
      within = λ i l. by_sides p theta basic i (side_in v i) (c.bounds_hold.ensures c.if-not-bounds_hold.false i l);
      balanced = c.balances_but.ensures c.if-not-balances_but.false (dual_of (sample value128 p) theta v c.args.end.basic.now) (c.in_ok-duals.ensures {u = tt});
    }

pub returns-clause-value : goal.returns-clause-value
returns-clause-value c =
    c.in_ok-value.ensures {u = tt} (dual_of (sample value128 c.args.whole.problem.now) (rational c.args.end.theta.now) c.args.end.vertex.now c.args.end.basic.now) (c.in_ok-duals.ensures {u = tt})
