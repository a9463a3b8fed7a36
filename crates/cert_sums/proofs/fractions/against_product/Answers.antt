-- The number over a factor above 0.
use Rattle.std.proofs.Common.{◌<ℤ◌, pos, arith, ap, ◌∙◌}
use Rattle.std.proofs.lemmas.Int.{ints}
use Rattle.rational_laws.specs.Fraction.{rational}
use Rattle.rational_laws.specs.Order.{cmp_ℚ}
use Rattle.frac_core.specs.Values.{value as value128}
use Rattle.cert_sums.proofs.Orders.{above_zero, not_zero, over_compares}
use Rattle.cert_sums.proofs.fractions.against_product.Goals as goal

pub try_div-requires : goal.try_div-requires
try_div-requires c =
    let s = rational (value128 c.args.number) in
    let b = rational (value128 c.args.factor) in
    let above : pos 0 <ℤ c.sign.result = omega (arith, ints) in
    not_zero s b s (above_zero b c.sign.result c.sign.ensures above)

pub returns-in-Ok : goal.returns-in-Ok
returns-in-Ok c =
    let s = rational (value128 c.args.number) in
    let b = rational (value128 c.args.factor) in
    let q = rational (value128 c.args.other) in
    let above : pos 0 <ℤ c.sign.result = omega (arith, ints) in
    c.compare.ensures ∙ ap (λ z. cmp_ℚ z q) c.in-Ok.ensures.exact ∙ over_compares s b q (above_zero b c.sign.result c.sign.ensures above)
