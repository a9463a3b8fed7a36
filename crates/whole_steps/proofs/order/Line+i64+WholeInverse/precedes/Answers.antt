-- By the cross products.
use Rattle.std.proofs.Common.{rules, ◌≡◌, ◌*◌, true, false, sym, ap₂, ◌∙◌}
use Rattle.std.specs.Ordering.{is_eq, nat_cmp}
use Rattle.rational_laws.proofs.Comparisons.{is_equal}
use Rattle.whole_steps.proofs.Ties.{first_decides}
use Rattle.whole_steps.proofs.order.Line+i64+WholeInverse.precedes.Goals as goal

pub break_tie-requires-clause-equal : goal.break_tie-requires-clause-equal
break_tie-requires-clause-equal c =
    let m = c.args.left in
    let n = c.args.right in
    let is : c.compare-order.result ≡ nat_cmp (m.residual * n.coord) (n.residual * m.coord) = c.compare-order.ensures ∙ ap₂ nat_cmp c.product-one.ensures c.product-two.ensures in
    let same : is_eq c.compare-order.result ≡ true = search rules in
    sym is ∙ is_equal c.compare-order.result same

pub returns : goal.returns
returns c =
    let l = c.args.self.now in
    let m = c.args.left in
    let n = c.args.right in
    let is : c.compare-order.result ≡ nat_cmp (m.residual * n.coord) (n.residual * m.coord) = c.compare-order.ensures ∙ ap₂ nat_cmp c.product-one.ensures c.product-two.ensures in
    let other : is_eq c.compare-order.result ≡ false = search rules in
    c.is_lt.ensures ∙ first_decides l c.requires.line m n c.compare-order.result c.requires.left c.requires.right is other
