use Rattle.std.proofs.Common.{true, refl}
use Rattle.std.proofs.lemmas.Result.{err_from_is_err_and}
use Rattle.loss_model.specs.Spill.{of_product, of_addition}
use Rattle.loss_model.proofs.Products.{refusal}
use Rattle.loss_model.proofs.sites.plus_product.Goals as goal

pub returns-in_err-product-clause-spilled : goal.returns-in_err-product-clause-spilled
returns-in_err-product-clause-spilled g c =
    let r = err_from_is_err_and c.from_residual.result c.from_residual.ensures.1 in
    let refused = c.in_err-product.ensures {u = tt} in
    rw (r.1, r.2, refused.operands)
    (of_product (record { named = refl; is_left = refl; is_right = refl; overflows = refused.refused.0 (refl {a = true}) }))

pub returns-clause-spilled : goal.returns-clause-spilled
returns-clause-spilled g c =
    refusal c.plus_at.result _ _ c.plus_at.ensures.operands c.plus_at.ensures.refused
    (λ o. of_addition (record { named = refl; is_left = refl; is_right = (c.in_ok-product.ensures {u = tt}).exact; overflows = o }))
