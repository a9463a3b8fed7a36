-- By their signs, and by the cross products of their sizes.
use Rattle.std.proofs.Common.{rules, ◌≡◌, ◌*◌, ◌<ℤ◌, ◌≤ℤ◌, pos, unsigned_abs, ap, ap₂, ◌∙◌}
use Rattle.std.specs.Ordering.{nat_cmp, ordering_reverse}
use Rattle.whole_steps.proofs.Ties.{below_both, below_above, above_below, above_both}
use Rattle.whole_steps.proofs.tie.entry_order.Goals as goal

pub returns-then-two-lt0 : goal.returns-then-two-lt0
returns-then-two-lt0 c =
    let a = c.args.one.over in
    let b = c.args.two.over in
    let d = c.args.one.under in
    let e = c.args.two.under in
    let la : a <ℤ pos 0 = search rules in
    let lb : b <ℤ pos 0 = search rules in
    let sa : c.unsigned_abs-left.result ≡ unsigned_abs a = search rules in
    let sb : c.unsigned_abs-right.result ≡ unsigned_abs b = search rules in
    let is : c.compare-sizes.result ≡ nat_cmp (unsigned_abs a * e) (unsigned_abs b * d) = c.compare-sizes.ensures ∙ ap₂ nat_cmp (c.product-first.ensures ∙ ap (λ z. z * e) sa) (c.product-second.ensures ∙ ap (λ z. z * d) sb) in
    c.reverse.ensures ∙ ap ordering_reverse is ∙ below_both a b d e c.requires.one c.requires.two la lb

pub returns-then-one-lt0 : goal.returns-then-one-lt0
returns-then-one-lt0 c =
    let a = c.args.one.over in
    let b = c.args.two.over in
    let la : a <ℤ pos 0 = search rules in
    let lb : pos 0 ≤ℤ b = search rules in
    below_above a b c.args.one.under c.args.two.under c.requires.one c.requires.two la lb

pub returns-then-two-lt0-2 : goal.returns-then-two-lt0-2
returns-then-two-lt0-2 c =
    let a = c.args.one.over in
    let b = c.args.two.over in
    let la : pos 0 ≤ℤ a = search rules in
    let lb : b <ℤ pos 0 = search rules in
    above_below a b c.args.one.under c.args.two.under c.requires.one c.requires.two la lb

pub returns : goal.returns
returns c =
    let a = c.args.one.over in
    let b = c.args.two.over in
    let d = c.args.one.under in
    let e = c.args.two.under in
    let la : pos 0 ≤ℤ a = search rules in
    let lb : pos 0 ≤ℤ b = search rules in
    let sa : c.unsigned_abs-left.result ≡ unsigned_abs a = search rules in
    let sb : c.unsigned_abs-right.result ≡ unsigned_abs b = search rules in
    let is : c.compare-sizes.result ≡ nat_cmp (unsigned_abs a * e) (unsigned_abs b * d) = c.compare-sizes.ensures ∙ ap₂ nat_cmp (c.product-first.ensures ∙ ap (λ z. z * e) sa) (c.product-second.ensures ∙ ap (λ z. z * d) sb) in
    is ∙ above_both a b d e c.requires.one c.requires.two la lb
