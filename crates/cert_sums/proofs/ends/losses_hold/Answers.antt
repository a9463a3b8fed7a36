-- The residuals lie on their sides at both ends, where the dual values come to what is stated.
use Rattle.std.proofs.Common.{sym, ◌∙◌}
use Rattle.rational_laws.specs.Fraction.{rational}
use Rattle.frac_core.specs.Values.{value as value128}
use Rattle.loss_model.specs.Problem.{number_at, sample}
use Rattle.loss_model.specs.Vertex.{basic_value}
use Rattle.cert_sums.specs.Duals.{side_in}
use Rattle.cert_sums.specs.Ends.{low_dual, high_dual}
use Rattle.cert_sums.proofs.Losses.{lost_by_sides}
use Rattle.cert_sums.proofs.ends.losses_hold.Goals as goal

pub returns-else-not-comes_to-clause-low : goal.returns-else-not-comes_to-clause-low
returns-else-not-comes_to-clause-low c =
    let p = c.args.whole.problem.now in
    let s = c.args.segment.now in
    let on = c.follow_sides.ensures c.if-not-follow_sides.false in
    let objective = c.comes_to.ensures c.if-not-comes_to.false (low_dual p s) c.in-Some.ensures.low in
    λ h. record {
      lost = objective ∙ sym (lost_by_sides (sample value128 p) (rational s.lo) (number_at s.vertex.coef) (basic_value s.vertex s.basic_lo) (side_in s.vertex) c.requires.low on);
      objective = objective;
    }

pub returns-else-not-comes_to-clause-high : goal.returns-else-not-comes_to-clause-high
returns-else-not-comes_to-clause-high c =
    let p = c.args.whole.problem.now in
    let s = c.args.segment.now in
    let on = c.follow_sides.ensures c.if-not-follow_sides.false in
    λ h. let objective = c.comes_to-in-Some.ensures h (high_dual p s) c.in-Some.ensures.high in
    record {
      lost = objective ∙ sym (lost_by_sides (sample value128 p) (rational s.hi) (number_at s.vertex.coef) (basic_value s.vertex s.basic_hi) (side_in s.vertex) c.requires.high on);
      objective = objective;
    }
