-- A response within the room.
use Rattle.std.proofs.Common.{◌≡◌, ◌≤◌, ◌*ℤ◌, unsigned_abs, SFits, to_z, of_z, arith, rules}
use mir.Syntax.{w128}
use Rattle.std.proofs.lemmas.Nat.{mul-le}
use Rattle.std.proofs.lemmas.Int.{fits_signed_from_abs, unsigned_abs-mul}
use Rattle.whole_solution.proofs.primal.level_of.Goals as goal

pub overflow_mul-result : goal.overflow_mul-result
overflow_mul-result c =
    let y = c.args.y in
    let d = c.args.scale.determinant in
    let ey : to_z w128 (of_z w128 c.from.result) ≡ y = search rules in
    let ed : to_z w128 (of_z w128 d) ≡ d = search rules in
    let small : unsigned_abs y ≤ c.args.scale.room = search rules in
    let product = mul-le (unsigned_abs y) (unsigned_abs d) c.args.scale.room (unsigned_abs d) small (omega arith) in
    rw (ey, ed) (fits_signed_from_abs w128 (y *ℤ d) (omega (arith, unsigned_abs-mul y d, product, c.requires)))

pub returns-then-unsigned_abs-scale : goal.returns-then-unsigned_abs-scale
returns-then-unsigned_abs-scale c =
    let y = c.args.y in
    let d = c.args.scale.determinant in
    let ey : to_z w128 (of_z w128 c.from.result) ≡ y = search rules in
    let ed : to_z w128 (of_z w128 d) ≡ d = search rules in
    let small : unsigned_abs y ≤ c.args.scale.room = search rules in
    let product = mul-le (unsigned_abs y) (unsigned_abs d) c.args.scale.room (unsigned_abs d) small (omega arith) in
    let fits : SFits w128 (y *ℤ d) = fits_signed_from_abs w128 (y *ℤ d) (omega (arith, unsigned_abs-mul y d, product, c.requires)) in
    let whole : to_z w128 (of_z w128 (y *ℤ d)) ≡ y *ℤ d = search rules in
    rw (ey, ed) whole
