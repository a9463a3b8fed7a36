-- A product more is added, and a product less is left.
use Rattle.std.proofs.Common.{◌≡◌, ◌+ℤ◌, ◌*ℤ◌, arith, rules}
use Rattle.wide_int.proofs.Totals.{sum_all}
use Rattle.gram_check.proofs.Products.{one_product}
use Rattle.gram_check.proofs.equations.sum_of_products.Goals as goal

pub loop-i-preserved : goal.loop-i-preserved
loop-i-preserved c =
    let a = c.args.row.now in
    let b = c.args.numerators.now in
    let i = c.loop-i.i in
    let x = c.index-row-i.result in
    let y = c.index-numerators-i.result in
    let made : c.in_ok-sum.sum ≡ c.loop-i.sum +ℤ x *ℤ y = search rules in
    one_product a b i c.loop-i.sum x y c.in_ok-sum.sum c.loop-i-test.true (omega (arith, c.loop-i-test.true, c.requires)) c.loop-i.invariant c.index-row-i.is c.index-numerators-i.is made

pub returns : goal.returns
returns c = sum_all c.args.row.now c.args.numerators.now c.loop-i.i c.loop-i.sum c.loop-i-test.false c.loop-i.invariant
