use Rattle.std.proofs.Common.{◌≡◌, ℕ, length, IfOk, IfErr, pos, ◌∙◌}
use Rattle.std.proofs.lemmas.Result.{IfOk-weaker}
use Rattle.rational_laws.specs.Fraction.{rational}
use Rattle.rational_laws.specs.Rational.{ℚ, ◌+ℚ◌, ◌*ℚ◌, neg_ℚ, whole}
use Rattle.rational_laws.proofs.RationalLaws.{zero-+ℚ}
use Rattle.rational_laws.specs.RationalSums.{sum_ℚ}
use Rattle.loss_model.specs.declared.spill.Quantity.TheVariants.{BasicDual}
use Rattle.loss_model.specs.Problem.{value_at}
use Rattle.loss_model.specs.Spill.{site_of, IsSpillOf}
use Rattle.basis_model.specs.Parts.{part_number}
use Rattle.basic_solution.proofs.Rows.{at_list}
use Rattle.basic_solution.proofs.duals.balancing_value.Goals as goal

pub returns-clause-exact : goal.returns-clause-exact
returns-clause-exact g c =
    let value = g.F.Exact.value in
    let totals = c.args.totals.now in
    IfOk-weaker c.sum_of_products.result _ _ (λ e h. h ∙ zero-+ℚ _)
    (at_list value (λ (f : ℕ → ℚ). IfOk c.sum_of_products.result (λ e. rational (value e) ≡ whole (pos 0) +ℚ sum_ℚ (length totals) (λ k. neg_ℚ (value_at value totals k) *ℚ f k)))
    c.args.inverse.now.columns c.args.position c.column.result.now c.column.ensures
    (rw c.zero.ensures at c.sum_of_products.ensures.exact))

pub returns-clause-spilled : goal.returns-clause-spilled
returns-clause-spilled g c =
    let value = g.F.Exact.value in
    let totals = c.args.totals.now in
    at_list value (λ (f : ℕ → ℚ). IfErr c.sum_of_products.result (IsSpillOf value g.F.Exact.range (site_of BasicDual c.args.position (part_number c.args.part) 0)
    (record { first = whole (pos 0); count = length totals; left = λ k. neg_ℚ (value_at value totals k); right = f })))
    c.args.inverse.now.columns c.args.position c.column.result.now c.column.ensures
    (rw (c.new-site.ensures, c.number.ensures, c.zero.ensures) at c.sum_of_products.ensures.spilled)
