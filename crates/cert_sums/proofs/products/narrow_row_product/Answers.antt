-- A product more is added, and a product less is left; there is room for it.
use Rattle.std.proofs.Common.{◌≡◌, ◌+ℤ◌, ◌*ℤ◌, pos, get_or, w64, to_z, of_z, arith, rules}
use mir.Syntax.{w128}
use Rattle.wide_int.proofs.Totals.{product_room, product_step, sum_all}
use Rattle.cert_sums.proofs.products.narrow_row_product.Goals as goal

pub grown-sum-requires : goal.grown-sum-requires
grown-sum-requires c =
    let x = get_or c.args.row.now c.loop-i.i (pos 0) in
    let m = get_or c.args.column.now c.loop-i.i (pos 0) in
    let fits = product_room c.args.row.now c.args.column.now c.loop-i.i c.args.limit (to_z w128 c.loop-i.sum-bits) c.loop-i-test.true c.requires.same c.requires.small c.loop-i.invariant.1 in
    let ex : to_z w64 (of_z w64 x) ≡ x = search rules in
    let em : to_z w64 (of_z w64 m) ≡ m = search rules in
    let wide : to_z w128 (of_z w128 m) ≡ m = search rules in
    rw (ex, em, wide) (omega (arith, fits, c.requires.bound))

pub loop-i-preserved : goal.loop-i-preserved
loop-i-preserved c =
    let s = to_z w128 c.loop-i.sum-bits in
    let r = c.grown-sum.result in
    let plain : to_z w128 (of_z w128 r) ≡ r = search rules in
    let made : r ≡ s +ℤ get_or c.args.row.now c.loop-i.i (pos 0) *ℤ get_or c.args.column.now c.loop-i.i (pos 0) = search rules in
    rw (plain) (product_step c.args.row.now c.args.column.now c.loop-i.i c.args.limit s c.loop-i-test.true c.requires.same c.requires.small r c.loop-i.invariant made)

pub returns : goal.returns
returns c = sum_all c.args.row.now c.args.column.now c.loop-i.i (to_z w128 c.loop-i.sum-bits) c.loop-i-test.false c.loop-i.invariant.0
