-- The first is not after the second.
use Rattle.std.proofs.Common.{Some, refl, sym, subst, ◌∙◌, inr}
use Rattle.rational_laws.specs.Fraction.{rational}
use Rattle.rational_laws.proofs.Signs.{not_below}
use Rattle.tableau_model.specs.Crossings.{IsSooner}
use Rattle.whole_steps.specs.Crossings.{quotient_value}
use Rattle.whole_steps.proofs.crossings.sooner.Goals as goal

pub returns-else-is_before-clause-sooner : goal.returns-else-is_before-clause-sooner
returns-else-is_before-clause-sooner c =
    let one = c.in-Some-Some.one in
    let two = c.in-Some-Some.two in
    subst (λ x. IsSooner quotient_value x c.args.second (Some one)) (sym c.in-Some-Some.is-0)
    (subst (λ y. IsSooner quotient_value (Some one) y (Some one)) (sym c.in-Some-Some.is-1)
    (inr (refl, not_below (rational (quotient_value two.theta)) (rational (quotient_value one.theta)) (sym c.is_before.ensures ∙ c.if-is_before.false))))
