use Rattle.std.proofs.Common.{length, map, ap, inr, ◌∙◌}
use Rattle.std.proofs.lemmas.Result.{err_from_is_err_and}
use Rattle.rational_laws.specs.Fraction.{rational}
use Rattle.loss_model.specs.Problem.{value_at}
use Rattle.tableau_model.proofs.Vertices.{duals_by_row}
use Rattle.fraction_tableau.specs.Next.{IsDualFault}
use Rattle.fraction_tableau.specs.Ends.{end_number, IsEndedSpill}
use Rattle.fraction_tableau.specs.Kept.{place}
use Rattle.fraction_tableau.proofs.Places.{kept_is_place}
use Rattle.fraction_tableau.proofs.EndSpills.{duals_fault}
use Rattle.fraction_tableau.proofs.NextSteps.{duals_here}
use Rattle.fraction_tableau.proofs.Refusals.{short_weaker}
use Rattle.fraction_tableau.proofs.view.BasisView.end_at.Goals as goal

pub returns-in_err-duals-clause-spill : goal.returns-in_err-duals-clause-spill
returns-in_err-duals-clause-spill g c =
    let value = g.F.Exact.value in
    let range = g.F.Exact.range in
    let view = c.args.self.now in
    let sol = view.solution.now in
    let theta = rational (value c.args.theta) in
    let returned = err_from_is_err_and c.from_residual.result c.from_residual.ensures.1 in
    rw (returned.1, returned.2)
    (short_weaker (IsDualFault value range (length sol.constant) (value_at value sol.constant) (value_at value sol.linear) theta) (IsEndedSpill value range view theta c.args.end)
    (λ s k. inr (duals_fault value (place value view.tableau.now) sol (kept_is_place value view.tableau.now c.requires.view.kept) c.requires.view.solution range theta (end_number c.args.end) s k)) _
    (rw (c.as_slice.ensures, c.as_slice-2.ensures) at (c.in_err-duals.ensures {u = tt}).spill))

pub by_row-requires-clause-members : goal.by_row-requires-clause-members
by_row-requires-clause-members g c κs within = rw (c.as_slice-rows.ensures, c.basis.ensures.rows) c.requires.members

pub returns-in_err-total-clause-spill : goal.returns-in_err-total-clause-spill
returns-in_err-total-clause-spill g c =
    let returned = err_from_is_err_and c.from_residual-in_err-total.result c.from_residual-in_err-total.ensures.1 in
    rw (returned.1, returned.2) (inr (c.in_err-total.ensures {u = tt}).spill)

pub returns-clause-ended : goal.returns-clause-ended
returns-clause-ended g c =
    let value = g.F.Exact.value in
    let view = c.args.self.now in
    let h = place value view.tableau.now in
    let theta = rational (value c.args.theta) in
    let is_place = kept_is_place value view.tableau.now c.requires.view.kept in
    let duals = rw (c.as_slice.ensures, c.as_slice-2.ensures) at (c.in_ok-duals.ensures {u = tt}) in
    let are_duals = duals_here value h theta view.solution.now c.requires.view.solution c.in_ok-duals.duals duals.size duals.each in
    let values = rw (c.as_slice-rows.ensures, c.basis.ensures.rows, c.as_slice-3.ensures) at (c.in_ok-values.ensures {u = tt}) in
    let made = (c.in_ok-basic.ensures {u = tt}) ∙ ap (map value) c.as_slice-4.ensures in
    let wide = duals_by_row value h is_place theta c.in_ok-duals.duals are_duals c.args.sorted.now c.in_ok-values.values c.in_ok-basic.basic made values.size values.each in
    record {
      size = wide.0;
      each = wide.1;
      loss = ap rational (c.in_ok-loss.ensures {u = tt}) ∙ (c.in_ok-total.ensures {u = tt}).exact;
    }
