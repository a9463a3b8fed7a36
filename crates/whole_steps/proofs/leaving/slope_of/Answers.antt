-- The slope by its parts.
use Rattle.std.proofs.Common.{rules, ◌≡◌, ◌+ℤ◌, ◌*ℤ◌, to_z, of_z, refl}
use mir.Syntax.{w128}
use Rattle.whole_steps.proofs.SlopeNumbers.{slope_number_is}
use Rattle.whole_steps.proofs.leaving.slope_of.Goals as goal

pub returns : goal.returns
returns c =
    let s = c.args.station.now in
    let q = c.args.theta in
    let made : c.in_ok-slope.slope ≡ (c.in_ok-constant.constant *ℤ q.under) +ℤ (c.in_ok-linear.linear *ℤ q.over) = search rules in
    let plain : to_z w128 (of_z w128 c.in_ok-slope.slope) ≡ c.in_ok-slope.slope = search rules in
    rw (plain) (record {
      position = refl;
      direction = refl;
      slope = slope_number_is s q c.requires.station.held.shape.positive c.requires.theta c.args.position c.args.direction c.in_ok-constant.constant c.in_ok-linear.linear c.in_ok-slope.slope
          (c.in_ok-constant.ensures {u = tt}) (c.in_ok-linear.ensures {u = tt}) made;
    })
