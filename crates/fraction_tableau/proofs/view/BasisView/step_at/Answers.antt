use Rattle.std.specs.Ordering.{is_lt}
use Rattle.std.proofs.Common.{ap, ◌∙◌}
use Rattle.std.proofs.lemmas.Result.{err_from_is_err_and}
use Rattle.rational_laws.specs.Fraction.{rational}
use Rattle.fraction_tableau.specs.Lines.{IsOrderSpill}
use Rattle.fraction_tableau.specs.Views.{sample_at, rows_at, entries_at}
use Rattle.fraction_tableau.specs.WalkingSteps.{IsStepSpillAt}
use Rattle.tableau_model.proofs.Tests.{not_below_by, is_below_by}
use Rattle.fraction_tableau.proofs.Inverses.{basis_of}
use Rattle.tableau_model.proofs.Steps.{some_moves}
use Rattle.fraction_tableau.proofs.Refusals.{short_weaker}
use Rattle.fraction_tableau.proofs.view.BasisView.step_at.Goals as goal

pub returns-then-not-is_lt-clause-step : goal.returns-then-not-is_lt-clause-step
returns-then-not-is_lt-clause-step g c =
    let value = g.F.Exact.value in
    not_below_by (rational (value c.args.next.theta)) (rational (value c.args.hi)) c.is_lt.result (c.is_lt.ensures ∙ ap is_lt c.compare.ensures) c.if-not-is_lt.true

pub entering_at-requires-clause-some : goal.entering_at-requires-clause-some
entering_at-requires-clause-some g c κs within =
    let value = g.F.Exact.value in
    let view = c.args.self.now in
    some_moves (sample_at value view) (rows_at value view) (entries_at value view) (rational (value c.args.next.theta)) (rational (value c.args.hi)) c.args.next.position c.args.next.direction
    (basis_of value view.tableau.now.problem view.tableau.now.rows view.tableau.now.square c.requires.view.kept.inverse) c.requires.costs c.requires.position c.requires.crosses
    (is_below_by (rational (value c.args.next.theta)) (rational (value c.args.hi)) c.is_lt.result (c.is_lt.ensures ∙ ap is_lt c.compare.ensures) c.if-not-is_lt.false)

pub returns-in_err-row-clause-spill : goal.returns-in_err-row-clause-spill
returns-in_err-row-clause-spill g c =
    let value = g.F.Exact.value in
    let view = c.args.self.now in
    let returned = err_from_is_err_and c.from_residual.result c.from_residual.ensures.1 in
    rw (returned.1, returned.2)
    (short_weaker (IsOrderSpill value g.F.Exact.range (sample_at value view) (rows_at value view) (entries_at value view) c.args.next.position c.args.next.direction)
    (IsStepSpillAt value g.F.Exact.range view c.args.next (rational (value c.args.hi)))
    (λ s k. (is_below_by (rational (value c.args.next.theta)) (rational (value c.args.hi)) c.is_lt.result (c.is_lt.ensures ∙ ap is_lt c.compare.ensures) c.if-not-is_lt.false, k)) _ (c.in_err-row.ensures {u = tt}).spill)
