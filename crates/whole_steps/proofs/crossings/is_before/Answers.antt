-- By the cross products.
use Rattle.std.specs.Ordering.{is_lt, nat_cmp}
use Rattle.std.proofs.Common.{sym, ap, ap₂, ◌∙◌}
use Rattle.whole_steps.proofs.Signs.{cross_compare}
use Rattle.whole_steps.proofs.crossings.is_before.Goals as goal

pub returns : goal.returns
returns c =
    let one = c.args.one in
    let two = c.args.two in
    c.is_lt.ensures ∙ ap is_lt (c.compare.ensures ∙ ap₂ nat_cmp c.product-first.ensures c.product-second.ensures ∙ sym (cross_compare one.over one.under two.over two.under c.requires.one c.requires.two))
