use Rattle.std.proofs.Common.{◌≡◌, ◌≤◌, length, arith, ap, sym, ◌∙◌}
use Rattle.loss_model.specs.declared.spill.Site.{Site}
use Rattle.loss_model.proofs.Products.{same_spill}
use Rattle.loss_model.proofs.Residuals.{residual_exact, products_at, width_is}
use Rattle.loss_model.proofs.loss.residual_at.Goals as goal

pub sum_of_products-requires-clause-same : goal.sum_of_products-requires-clause-same
sum_of_products-requires-clause-same g c κs within =
    ap length c.as_slice-2.ensures ∙ width_is c.args.problem.now c.as_slice.result.now c.args.row c.index-as_slice-row.result c.requires.shaped c.as_slice.ensures c.requires.inside c.index-as_slice-row.is ∙ sym c.requires.coefs

pub sum_of_products-requires-clause-few : goal.sum_of_products-requires-clause-few
sum_of_products-requires-clause-few g c κs within =
    let wide : length c.as_slice-2.result.now ≡ c.args.problem.now.columns =
    ap length c.as_slice-2.ensures ∙ width_is c.args.problem.now c.as_slice.result.now c.args.row c.index-as_slice-row.result c.requires.shaped c.as_slice.ensures c.requires.inside c.index-as_slice-row.is in
    let term : c.new-site.result.term ≡ 1 = ap (λ (site : Site). site.term) c.new-site.ensures in
    let few : c.args.problem.now.columns ≤ 128 = c.requires.shaped.columns in
    omega (arith, wide, term, few)

pub returns-clause-exact : goal.returns-clause-exact
returns-clause-exact g c =
    residual_exact g.F.Exact.value c.args.problem.now c.args.coef.now c.args.row _ c.sum_of_products.result
    (products_at g.F.Exact.value c.args.problem.now c.args.coef.now c.args.row c.as_slice.result.now c.index-as_slice-row.result c.as_slice-2.result.now c.requires.shaped c.as_slice.ensures c.requires.inside c.index-as_slice-row.is
    c.as_slice-2.ensures)
    c.sum_of_products.ensures.exact

pub returns-clause-spilled : goal.returns-clause-spilled
returns-clause-spilled g c =
    same_spill g.F.Exact.value g.F.Exact.range _ _ _ _ c.sum_of_products.result c.new-site.ensures
    (products_at g.F.Exact.value c.args.problem.now c.args.coef.now c.args.row c.as_slice.result.now c.index-as_slice-row.result c.as_slice-2.result.now c.requires.shaped c.as_slice.ensures c.requires.inside c.index-as_slice-row.is
    c.as_slice-2.ensures)
    c.sum_of_products.ensures.spilled
