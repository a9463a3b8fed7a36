-- The numerator that was read.
use Rattle.std.proofs.Common.{rules, ◌≡◌, ◌<◌, length, get_or, pos, to_z, of_z, arith, ◌∙◌}
use mir.Syntax.{w128}
use Rattle.whole_inverse.proofs.Lists.{share_read}
use Rattle.whole_steps.specs.Stations.{over_of}
use Rattle.whole_steps.proofs.station.Station.dual_at.Goals as goal

pub returns-in-Constant : goal.returns-in-Constant
returns-in-Constant c =
    let h = c.requires.station.solution in
    let j = c.args.position in
    let xs = c.args.self.now.solution.now.constant in
    let inside : j < length xs = omega (arith, h.constants, c.requires.position) in
    let plain : to_z w128 (of_z w128 (get_or xs j (pos 0))) ≡ get_or xs j (pos 0) = search rules in
    rw (c.in-Constant.is, c.as_slice-constant.ensures, plain) (share_read (over_of c.args.self.now) xs j inside ∙ h.constant j c.requires.position)

pub returns-in-Linear : goal.returns-in-Linear
returns-in-Linear c =
    let h = c.requires.station.solution in
    let j = c.args.position in
    let xs = c.args.self.now.solution.now.linear in
    let inside : j < length xs = omega (arith, h.linears, c.requires.position) in
    let plain : to_z w128 (of_z w128 (get_or xs j (pos 0))) ≡ get_or xs j (pos 0) = search rules in
    rw (c.in-Linear.is, c.as_slice-linear.ensures, plain) (share_read (over_of c.args.self.now) xs j inside ∙ h.linear j c.requires.position)
