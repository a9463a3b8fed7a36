-- The size of the coordinate times the costs.
use Rattle.std.proofs.Common.{rules, ◌≡◌, ◌+ℤ◌, ◌*ℤ◌, pos, unsigned_abs, get_or, to_z, of_z}
use mir.Syntax.{w128}
use Rattle.whole_steps.proofs.Passed.{passing_is}
use Rattle.whole_steps.proofs.passing.Descent.passing.Goals as goal

pub returns : goal.returns
returns c =
    let d = c.args.self.now in
    let i = c.args.row in
    let r = c.index-rows-row.result in
    let x = get_or d.full.coords.now i (pos 0) in
    let constant : c.in_ok-constant.constant ≡ r.up0 +ℤ r.down0 = search rules in
    let linear : c.in_ok-linear.linear ≡ r.up1 +ℤ r.down1 = search rules in
    let weight : c.in_ok-weight.weight ≡ (c.in_ok-constant.constant *ℤ d.theta.under) +ℤ (c.in_ok-linear.linear *ℤ d.theta.over) = search rules in
    let number : c.in_ok-number.number ≡ pos (unsigned_abs x) *ℤ c.in_ok-weight.weight = search rules in
    let plain : to_z w128 (of_z w128 c.in_ok-number.number) ≡ c.in_ok-number.number = search rules in
    rw (plain) (passing_is d c.requires.descent i r c.in_ok-constant.constant c.in_ok-linear.linear c.in_ok-weight.weight c.in_ok-number.number c.requires.row c.index-rows-row.is constant linear weight number)
