use Rattle.std.proofs.Common.{rules, ◌≡◌, ◌*◌, unsigned_abs, SFits, to_z-of_z, ap₂, ◌∙◌}
use Rattle.std.specs.Ordering.{nat_cmp}
use mir.Syntax.{w128}
use Rattle.frac_core.specs.Parts.{fraction}
use Rattle.frac_core.proofs.Values.{compare_above, compare_below, compare_less, compare_greater}
use Rattle.frac_core.proofs.parts.Parts.compare.Goals as goal

pub returns-in-false-false : goal.returns-in-false-false
returns-in-false-false c =
    let x = fraction c.args.self in
    let y = fraction c.args.other in
    let fx : SFits w128 x.num = search rules in
    let fy : SFits w128 y.num = search rules in
    let size : c.unsigned_abs-in-false-false.result ≡ unsigned_abs x.num = simp to_z-of_z at c.unsigned_abs-in-false-false.ensures.value in
    let other_size : c.unsigned_abs-in-false-false-2.result ≡ unsigned_abs y.num = simp to_z-of_z at c.unsigned_abs-in-false-false-2.ensures.value in
    let left = simp to_z-of_z at c.in-false-false.is-0 in
    let right = simp to_z-of_z at c.in-false-false.is-1 in
    c.compare_products-in-false-false.ensures ∙ ap₂ (λ m n. nat_cmp (m * y.den) (n * x.den)) size other_size ∙ compare_above x y c.requires.left c.requires.right left right

pub returns-in-true-true : goal.returns-in-true-true
returns-in-true-true c =
    let x = fraction c.args.self in
    let y = fraction c.args.other in
    let fx : SFits w128 x.num = search rules in
    let fy : SFits w128 y.num = search rules in
    let size : c.unsigned_abs-in-true-true.result ≡ unsigned_abs x.num = simp to_z-of_z at c.unsigned_abs-in-true-true.ensures.value in
    let other_size : c.unsigned_abs.result ≡ unsigned_abs y.num = simp to_z-of_z at c.unsigned_abs.ensures.value in
    let left = simp to_z-of_z at c.in-true-true.is-0 in
    let right = simp to_z-of_z at c.in-true-true.is-1 in
    c.compare_products.ensures ∙ ap₂ (λ m n. nat_cmp (m * x.den) (n * y.den)) other_size size ∙ compare_below x y c.requires.left c.requires.right left right

pub returns-in-true-false : goal.returns-in-true-false
returns-in-true-false c =
    let x = fraction c.args.self in
    let y = fraction c.args.other in
    let fx : SFits w128 x.num = search rules in
    let fy : SFits w128 y.num = search rules in
    let left = simp to_z-of_z at c.in-true-false.is-0 in
    let right = simp to_z-of_z at c.in-true-false.is-1 in
    compare_less x y c.requires.left c.requires.right left right

pub returns-in-false-true : goal.returns-in-false-true
returns-in-false-true c =
    let x = fraction c.args.self in
    let y = fraction c.args.other in
    let fx : SFits w128 x.num = search rules in
    let fy : SFits w128 y.num = search rules in
    let left = simp to_z-of_z at c.in-false-true.is-0 in
    let right = simp to_z-of_z at c.in-false-true.is-1 in
    compare_greater x y c.requires.left c.requires.right left right
