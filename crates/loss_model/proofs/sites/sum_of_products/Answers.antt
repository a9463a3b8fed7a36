use Rattle.std.proofs.Common.{◌<◌, length, refl, sym, ap, ◌∙◌, arith}
use Rattle.std.proofs.lemmas.Result.{err_from_is_err_and}
use Rattle.loss_model.specs.Sign.{signed, products_of}
use Rattle.loss_model.proofs.Products.{value_at-item, partial_sum-zero, partial_sum-next, step_spill, product_is}
use Rattle.loss_model.proofs.sites.sum_of_products.Goals as goal

pub loop-k-init : goal.loop-k-init
loop-k-init g c = partial_sum-zero (products_of g.F.Exact.value c.args.first c.args.sign c.args.left.now c.args.right.now)

pub loop-k-preserved : goal.loop-k-preserved
loop-k-preserved g c =
    let v = g.F.Exact.value in
    let within : c.loop-k.k < length c.args.right.now = omega (arith, c.requires.same) in
    partial_sum-next (products_of v c.args.first c.args.sign c.args.left.now c.args.right.now) c.loop-k.k _ _ _ c.loop-k.invariant
    (product_is v c.args.sign c.args.left.now c.args.right.now c.loop-k.k _ _ _ _ c.loop-k-test.true within c.index-left-k.is c.index-right-k.is c.apply.ensures refl)
    (c.in_ok-sum.ensures {u = tt}).exact

pub returns-in_err-sum-clause-spilled : goal.returns-in_err-sum-clause-spilled
returns-in_err-sum-clause-spilled g c =
    let v = g.F.Exact.value in
    let p = err_from_is_err_and c.from_residual.result c.from_residual.ensures.1 in
    let within : c.loop-k.k < length c.args.right.now = omega (arith, c.requires.same) in
    rw (p.1, p.2)
    (step_spill v g.F.Exact.range c.args.site (products_of v c.args.first c.args.sign c.args.left.now c.args.right.now) c.loop-k.k _ _ _ _ _ refl c.loop-k-test.true c.loop-k.invariant
    (c.apply.ensures ∙ ap (signed c.args.sign) (sym (value_at-item v c.args.left.now c.loop-k.k _ c.loop-k-test.true c.index-left-k.is)))
    (sym (value_at-item v c.args.right.now c.loop-k.k _ within c.index-right-k.is))
    (c.in_err-sum.ensures {u = tt}).spilled)
