-- Position by position.
use Rattle.std.proofs.Common.{rules, ◌≡◌, ◌≤ℤ◌, ◌<ℤ◌, pos, arith, ◌∙◌}
use Rattle.tableau_model.proofs.SlopeLaws.{one_least, one_more}
use Rattle.whole_steps.specs.Stations.{model, at_of, inverse_at}
use Rattle.whole_steps.specs.Quantiles.{theta_of, number_over}
use Rattle.whole_steps.specs.Leavings.{scale_of, leaving_of}
use Rattle.whole_steps.proofs.SlopeNumbers.{scale_some, leaves_at, none_leaves}
use Rattle.whole_steps.proofs.leaving.steepest.Goals as goal

pub loop-position-init : goal.loop-position-init
loop-position-init c =
    let s = c.args.station.now in
    let q = c.args.theta in
    one_least (number_over (scale_of s q)) (model s) (at_of s) (inverse_at s) (theta_of q) (leaving_of c.in_ok-least.least) (c.in_ok-least.ensures {u = tt})

pub loop-position-preserved : goal.loop-position-preserved
loop-position-preserved c =
    let s = c.args.station.now in
    let q = c.args.theta in
    one_more (number_over (scale_of s q)) (model s) (at_of s) (inverse_at s) (theta_of q) (leaving_of c.loop-position.least) (leaving_of c.in-Ok.next) (leaving_of c.steeper-least.result) c.loop-position.position c.loop-position.invariant
    (c.in-Ok.ensures {u = tt})
    (c.steeper-least.ensures (scale_of s q) (scale_some s q c.requires.station.held.shape.positive c.requires.theta))

pub returns-then-least-lt0 : goal.returns-then-least-lt0
returns-then-least-lt0 c =
    let s = c.args.station.now in
    let q = c.args.theta in
    let end : c.loop-position.position ≡ c.args.columns = omega (arith, c.loop-position-test.false, c.loop-position.auto.position-end, c.requires.some) in
    let below : c.loop-position.least.slope <ℤ pos 0 = search rules in
    leaves_at s q c.requires.station.held.shape.positive c.requires.theta c.loop-position.position c.loop-position.least (end ∙ c.requires.columns) c.loop-position.invariant below

pub returns-else-least-lt0 : goal.returns-else-least-lt0
returns-else-least-lt0 c =
    let s = c.args.station.now in
    let q = c.args.theta in
    let end : c.loop-position.position ≡ c.args.columns = omega (arith, c.loop-position-test.false, c.loop-position.auto.position-end, c.requires.some) in
    let up : pos 0 ≤ℤ c.loop-position.least.slope = search rules in
    none_leaves s q c.requires.station.held.shape.positive c.requires.theta c.loop-position.position c.loop-position.least (end ∙ c.requires.columns) c.loop-position.invariant up
