use Rattle.std.proofs.Common.{rules, ◌≡◌, ◌≤◌, ◌*◌, ◌+ℤ◌, neg_ℤ, pos, unsigned_abs, subst, sym, ◌∙◌}
use Rattle.rank_tableau.proofs.Bounds.{same_natural, bound_parts, natural_is, under_some}
use Rattle.rank_tableau.proofs.bound.square_bound.Goals as goal

pub returns-clause-under : goal.returns-clause-under
returns-clause-under c =
    let under : c.in_ok-under.under ≡ ((c.in_ok-least.least * c.in_ok-all.all) * c.in_ok-all.all) * c.args.parts.now = search rules in
    let least : pos c.in_ok-least.least ≡ c.args.crit.under = search rules in
    let all : pos c.in_ok-all.all ≡ c.args.tau.under = search rules in
    let some = under_some c.in_ok-least.least c.in_ok-all.all c.in_ok-all.all c.args.parts.now
    (same_natural c.in_ok-least.least c.args.crit.under least c.requires.crit) (same_natural c.in_ok-all.all c.args.tau.under all c.requires.tau)
    (same_natural c.in_ok-all.all c.args.tau.under all c.requires.tau) c.requires.parts in
    subst (λ n. 1 ≤ n) (sym under) some

pub returns-clause-bound : goal.returns-clause-bound
returns-clause-bound c =
    let left = c.args.left.now in
    let over : c.in_ok-over.over ≡ ((c.in_ok-most.most * c.in_ok-first.first) * c.in_ok-rest.rest) * unsigned_abs left = search rules in
    let under : c.in_ok-under.under ≡ ((c.in_ok-least.least * c.in_ok-all.all) * c.in_ok-all.all) * c.args.parts.now = search rules in
    let most : pos c.in_ok-most.most ≡ c.args.crit.over = search rules in
    let least : pos c.in_ok-least.least ≡ c.args.crit.under = search rules in
    let first : pos c.in_ok-first.first ≡ c.args.tau.over = search rules in
    let all : pos c.in_ok-all.all ≡ c.args.tau.under = search rules in
    let rest : pos c.in_ok-rest.rest ≡ c.args.tau.under +ℤ neg_ℤ c.args.tau.over = search rules in
    let size = natural_is left (sym c.is_negative.ensures ∙ c.if-is_negative.false) in
    bound_parts c.args.crit c.args.tau left c.in_ok-most.most c.in_ok-least.least c.in_ok-first.first c.in_ok-all.all c.in_ok-rest.rest (unsigned_abs left) c.args.parts.now
    c.in_ok-over.over c.in_ok-under.under over under most least first all size c.requires.tau rest
