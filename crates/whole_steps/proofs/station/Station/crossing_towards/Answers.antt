-- By the numerators of the slope.
use Rattle.std.proofs.Common.{rules, ◌≡◌, ◌≤ℤ◌, ◌<ℤ◌, pos, unsigned_abs, refl}
use Rattle.whole_steps.proofs.Crossed.{stays, falls_by, quotient_by}
use Rattle.whole_steps.proofs.station.Station.crossing_towards.Goals as goal

pub returns-then-fall-ge0-clause-crossing : goal.returns-then-fall-ge0-clause-crossing
returns-then-fall-ge0-clause-crossing c =
    let fall = c.in_ok-fall.fall in
    let up : pos 0 ≤ℤ fall = search rules in
    stays c.args.self.now c.args.position c.args.direction c.requires.station.held.shape.positive fall (c.in_ok-fall.ensures {u = tt}) up

pub returns-clause-crossing : goal.returns-clause-crossing
returns-clause-crossing c =
    let s = c.args.self.now in
    let j = c.args.position in
    let d = c.args.direction in
    let fall = c.in_ok-fall.fall in
    let level = c.in_ok-level.level in
    let positive = c.requires.station.held.shape.positive in
    let linear = c.in_ok-fall.ensures {u = tt} in
    let below : fall <ℤ pos 0 = search rules in
    let up : pos 0 ≤ℤ level = search rules in
    let over : c.unsigned_abs.result ≡ unsigned_abs level = search rules in
    let under : c.unsigned_abs-2.result ≡ unsigned_abs fall = search rules in
    rw (over, under) (refl, refl, falls_by s j d positive fall linear below, quotient_by s j d positive fall linear level (c.in_ok-level.ensures {u = tt}) up below)
