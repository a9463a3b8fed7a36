-- The order is that of the statistic and the length.
use Rattle.std.proofs.Common.{ap₂, ◌∙◌}
use Rattle.rational_laws.specs.Fraction.{rational}
use Rattle.rational_laws.specs.Order.{cmp_ℚ}
use Rattle.rational_laws.specs.Rational.{◌*ℚ◌}
use Rattle.frac_core.specs.Values.{value as value128}
use Rattle.loss_model.specs.Problem.{number_at, sample}
use Rattle.rank_model.specs.Restricted.{rank_bound, squared_length}
use Rattle.cert_sums.specs.Ranks.{square}
use Rattle.cert_sums.proofs.ranks.against_bound.Goals as goal

pub returns : goal.returns
returns c =
    let s = sample value128 c.args.whole.problem.now in
    let t = c.args.interval.now in
    let square = square s t c.args.vertex.now c.args.basic.now in
    let length = squared_length s t.column (number_at t.projection) in
    let found = c.in_ok-statistic.ensures {u = tt} in
    record {
      held = found.held;
      projection = (c.in_ok-length.ensures {u = tt}).projection;
      value = found.value;
      order = c.in_ok-order.ensures {u = tt}
          ∙ ap₂ (λ z q. cmp_ℚ (z *ℚ z) (rank_bound (rational (value128 c.in_ok-tau.tau)) (rational (value128 c.in_ok-crit.crit)) q)) found.value (c.in_ok-length.ensures {u = tt}).length
          ∙ ap₂ (λ tau crit. cmp_ℚ square (rank_bound tau crit length)) (c.in_ok-tau.ensures {u = tt}) (c.in_ok-crit.ensures {u = tt});
    }
