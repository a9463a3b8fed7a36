use Rattle.std.specs.Ordering.{is_lt}
use Rattle.std.proofs.Common.{Some, refl, sym, ap, subst, ◌∙◌, inr}
use Rattle.rational_laws.specs.Fraction.{rational}
use Rattle.rational_laws.proofs.Signs.{not_below}
use Rattle.tableau_model.specs.Crossings.{IsSooner}
use Rattle.tableau_model.proofs.breakpoint.sooner.Goals as goal

pub returns-else-is_lt : goal.returns-else-is_lt
returns-else-is_lt g c =
    let one = c.in-Some-Some.one in
    let two = c.in-Some-Some.two in
    let value = g.F.Exact.value in
    subst (λ x. IsSooner value x c.args.second (Some one)) (sym c.in-Some-Some.is-0)
    (subst (λ y. IsSooner value (Some one) y (Some one)) (sym c.in-Some-Some.is-1)
    (inr (refl, not_below (rational (value two.theta)) (rational (value one.theta)) (sym (c.is_lt.ensures ∙ ap is_lt c.compare.ensures) ∙ c.if-is_lt.false))))
