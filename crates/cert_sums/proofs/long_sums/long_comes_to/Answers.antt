-- The cross products are equal.
use Rattle.std.proofs.Common.{◌*◌, ◌*ℤ◌, pos, subst, sym, ap, ap₂, ◌∙◌}
use Rattle.std.specs.Prelude.{IsTrue}
use Rattle.rational_laws.proofs.Signs.{some_product}
use Rattle.cert_sums.proofs.Orders.{equal_whole}
use Rattle.cert_sums.proofs.Scales.{same_quotient}
use Rattle.cert_sums.proofs.long_sums.long_comes_to.Goals as goal

pub returns : goal.returns
returns c = λ h.
    let v = c.args.stated.now in
    let t = c.args.table.now in
    let scale = c.args.scale.now in
    let s = scale * t.cost_scale * t.scale in
    let same = equal_whole _ _ c.compare.result c.compare.ensures (subst IsTrue c.is_eq.ensures h) in
    let left = (c.in-Some-long_product.ensures {u = tt}) ∙ ap₂ (λ n d. n *ℤ pos d) c.numerator.ensures (c.in-Some.ensures {u = tt}) in
    let right = (c.in-Some-long_product-2.ensures {u = tt}) ∙ ap (λ d. c.args.total.now *ℤ pos d) c.denominator.ensures.value in
    same_quotient v.num c.args.total.now v.den s c.denominator.ensures.positive
    (some_product (scale * t.cost_scale) t.scale (some_product scale t.cost_scale c.requires.some c.requires.costs) c.requires.cells)
    (sym left ∙ same ∙ right)
