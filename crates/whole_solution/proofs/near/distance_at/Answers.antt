-- A power of 2 with few bits.
use Rattle.std.proofs.Common.{◌≤◌, ◌/◌, arith}
use Rattle.std.proofs.lemmas.Nat.{one_shl, pow_below, pow_pos}
use Rattle.whole_solution.proofs.near.distance_at.Goals as goal

pub with_quarters-requires : goal.with_quarters-requires
with_quarters-requires c =
    let bits = c.args.step / 4 in
    let few : bits ≤ 124 = omega (arith, c.requires) in
    omega (arith, one_shl bits 128 (omega (arith, few)), pow_below bits 126 (omega (arith, few)))

pub returns : goal.returns
returns c =
    let bits = c.args.step / 4 in
    let few : bits ≤ 124 = omega (arith, c.requires) in
    omega (arith, one_shl bits 128 (omega (arith, few)), pow_pos bits, c.with_quarters.ensures)
