-- The cost less the dual value.
use Rattle.std.proofs.Common.{rules, ◌≡◌, to_z, of_z, ap, ap₂, ◌∙◌}
use mir.Syntax.{w128}
use Rattle.rational_laws.specs.Rational.{◌-ℚ◌, whole}
use Rattle.whole_inverse.specs.Shares.{share}
use Rattle.tableau_model.specs.Turns.{turned_by}
use Rattle.whole_steps.specs.Stations.{model, at_of, inverse_at, over_of}
use Rattle.whole_steps.proofs.Parts.{slope_by}
use Rattle.whole_steps.proofs.station.Station.slope_number.Goals as goal

pub returns : goal.returns
returns c =
    let s = c.args.self.now in
    let d = over_of s in
    let plain : to_z w128 (of_z w128 c.dual_at.result) ≡ c.dual_at.result = search rules in
    let dual = (rw (plain) at (c.in_ok-dual.ensures {u = tt})) d in
    let made : share c.in_ok-number.number c.determinant-determinant.result ≡ whole c.cost_at-price.result -ℚ share c.in_ok-dual.dual c.determinant-determinant.result = search rules in
    let number : to_z w128 (of_z w128 c.in_ok-number.number) ≡ c.in_ok-number.number = search rules in
    rw (number) ((rw (c.determinant-determinant.ensures.value) at made)
    ∙ ap₂ (λ x y. x -ℚ y) c.cost_at-price.ensures (dual ∙ ap (turned_by c.args.direction) c.dual_at.ensures)
    ∙ slope_by (model s) (at_of s) (inverse_at s) c.args.part c.args.position c.args.direction)
