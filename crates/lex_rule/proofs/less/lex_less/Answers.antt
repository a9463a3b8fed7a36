use Rattle.std.proofs.Common.{◌≡◌, ◌<◌, ◌≤◌, ◌↔◌, suc, length, slice_index, IsTrue, arith, sym, ◌∙◌, true, false}
use Rattle.std.specs.Ordering.{is_ne}
use Rattle.std.specs.declared.cmp.Ordering.TheVariants.{Equal}
use Rattle.loss_model.specs.declared.vertex.Side.TheVariants.{Down}
use Rattle.basis_model.specs.Lexicographic.{lex_cmp}
use Rattle.basis_model.specs.Perturbed.{perturbed, perturbed_side, zeros, ratio}
use Rattle.lex_rule.specs.Compared.{of_ratio}
use Rattle.lex_rule.proofs.Comparisons.{equal_from, side_cases, less_from_first, left_decides, right_decides}
use Rattle.lex_rule.proofs.less.lex_less.Goals as goal

pub returns-then-is_ne-clause-less : goal.returns-then-is_ne-clause-less
returns-then-is_ne-clause-less g c rows lu lv =
    let n = length c.args.basis.now.rows in
    let at = slice_index c.args.basis.now.rows in
    let j = c.args.position in
    let u = of_ratio g.F.Exact.value c.args.left.now in
    let v = of_ratio g.F.Exact.value c.args.right.now in
    let left_side = c.divisor-by_left.ensures.side rows lu in
    let right_side = c.divisor-by_right.ensures.side rows lv in
    let is : c.in_ok-order.order ≡ lex_cmp (suc c.min-end.result) (ratio rows n at j u) (ratio rows n at j v) = rw (left_side, right_side, c.divisor-by_left.ensures.divides.position) at (c.in_ok-order.ensures {u = tt}).exact in
    let low : c.min-end.result ≤ rows = omega arith in
    let differ : is_ne c.in_ok-order.order ≡ true = sym c.is_ne.ensures ∙ c.if-is_ne.true in
    rw c.is_lt.ensures (less_from_first rows c.min-end.result c.in_ok-order.order (ratio rows n at j u) (ratio rows n at j v) low is differ)

pub returns-then-left-right-clause-less : goal.returns-then-left-right-clause-less
returns-then-left-right-clause-less g c rows lu lv =
    let n = length c.args.basis.now.rows in
    let at = slice_index c.args.basis.now.rows in
    let j = c.args.position in
    let u = of_ratio g.F.Exact.value c.args.left.now in
    let v = of_ratio g.F.Exact.value c.args.right.now in
    let left_side = c.divisor-by_left.ensures.side rows lu in
    let right_side = c.divisor-by_right.ensures.side rows lv in
    let is : c.in_ok-order.order ≡ lex_cmp (suc c.min-end.result) (ratio rows n at j u) (ratio rows n at j v) = rw (left_side, right_side, c.divisor-by_left.ensures.divides.position) at (c.in_ok-order.ensures {u = tt}).exact in
    let same : is_ne c.in_ok-order.order ≡ false = sym c.is_ne.ensures ∙ c.if-is_ne.false in
    let least : c.min-end.result ≡ u.row = omega arith in
    let less : u.row < v.row = omega arith in
    let test : IsTrue c.is_below.result ↔ (perturbed_side rows n at u ≡ Down) = rw left_side at c.is_below.ensures in
    let equal : Equal ≡ lex_cmp (suc c.min-end.result) (ratio rows n at j u) (ratio rows n at j v) = sym (equal_from c.in_ok-order.order same) ∙ is in
    left_decides rows n at j u v (perturbed_side rows n at u) (perturbed_side rows n at v) c.is_below.result c.min-end.result least less lu c.requires.left.outside c.requires.left.some test
    (side_cases (lex_cmp (suc rows) (perturbed n at u) zeros)) equal

pub returns-else-left-right-clause-less : goal.returns-else-left-right-clause-less
returns-else-left-right-clause-less g c rows lu lv =
    let n = length c.args.basis.now.rows in
    let at = slice_index c.args.basis.now.rows in
    let j = c.args.position in
    let u = of_ratio g.F.Exact.value c.args.left.now in
    let v = of_ratio g.F.Exact.value c.args.right.now in
    let left_side = c.divisor-by_left.ensures.side rows lu in
    let right_side = c.divisor-by_right.ensures.side rows lv in
    let is : c.in_ok-order.order ≡ lex_cmp (suc c.min-end.result) (ratio rows n at j u) (ratio rows n at j v) = rw (left_side, right_side, c.divisor-by_left.ensures.divides.position) at (c.in_ok-order.ensures {u = tt}).exact in
    let same : is_ne c.in_ok-order.order ≡ false = sym c.is_ne.ensures ∙ c.if-is_ne.false in
    let least : c.min-end.result ≡ v.row = omega arith in
    let less : v.row < u.row = omega (arith, c.requires.differ) in
    let test : IsTrue c.is_below-else-left-right.result ↔ (perturbed_side rows n at v ≡ Down) = rw right_side at c.is_below-else-left-right.ensures in
    let equal : Equal ≡ lex_cmp (suc c.min-end.result) (ratio rows n at j u) (ratio rows n at j v) = sym (equal_from c.in_ok-order.order same) ∙ is in
    right_decides rows n at j u v (perturbed_side rows n at u) (perturbed_side rows n at v) c.is_below-else-left-right.result c.min-end.result least less lv c.requires.right.outside c.requires.right.some test
    (side_cases (lex_cmp (suc rows) (perturbed n at v) zeros)) equal
