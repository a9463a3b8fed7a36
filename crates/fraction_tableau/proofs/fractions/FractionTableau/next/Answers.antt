use Rattle.std.proofs.Common.{◌≡◌, length, slice_index, sym, ap, ◌∙◌, arith}
use Rattle.std.proofs.lemmas.Result.{err_from_is_err_and}
use Rattle.rational_laws.specs.Fraction.{rational}
use Rattle.loss_model.specs.Problem.{sample}
use Rattle.basis_inverse.specs.Square.{inverse_entry}
use Rattle.fraction_tableau.specs.Kept.{place}
use Rattle.fraction_tableau.proofs.NextSteps.{duals_here, stands_here, dual_fault, basis_fault}
use Rattle.fraction_tableau.proofs.fractions.FractionTableau.next.Goals as goal

pub duals_at-requires-clause-same : goal.duals_at-requires-clause-same
duals_at-requires-clause-same g c κs within =
    let h = (c.in_ok-solution.ensures {u = tt}).solution in
    ap length c.as_slice-2.ensures ∙ h.linears ∙ sym (ap length c.as_slice.ensures ∙ h.constants)

pub duals_at-requires-clause-few : goal.duals_at-requires-clause-few
duals_at-requires-clause-few g c κs within =
    let solved = c.in_ok-solution.ensures {u = tt} in
    let wide : length c.as_slice.result.now ≡ c.args.self.now.problem.columns = ap length c.as_slice.ensures ∙ solved.solution.constants in
    omega (arith, wide, solved.kept.shaped.columns)

pub leaving-requires-clause-duals : goal.leaving-requires-clause-duals
leaving-requires-clause-duals g c κs within =
    let value = g.F.Exact.value in
    let h = (c.in_ok-solution.ensures {u = tt}).solution in
    let made = rw (c.as_slice.ensures, c.as_slice-2.ensures) at (c.in_ok-duals.ensures {u = tt}) in
    rw c.as_slice-3.ensures (duals_here value (place value c.args.self.now) (rational (value c.args.theta)) c.in_ok-solution.solution h c.in_ok-duals.duals made.size made.each)

pub returns-in_err-solution-clause-spilled : goal.returns-in_err-solution-clause-spilled
returns-in_err-solution-clause-spilled g c =
    let value = g.F.Exact.value in
    let k = c.args.self.now in
    let returned = err_from_is_err_and c.from_residual.result c.from_residual.ensures.1 in
    rw (returned.1, returned.2) (basis_fault value g.F.Exact.range (sample value k.problem) (slice_index k.rows) (inverse_entry value k.square) (rational (value c.args.theta)) _ (c.in_err-solution.ensures {u = tt}).spill)

pub returns-in_err-duals-clause-spilled : goal.returns-in_err-duals-clause-spilled
returns-in_err-duals-clause-spilled g c =
    let value = g.F.Exact.value in
    let returned = err_from_is_err_and c.from_residual-in_err-duals.result c.from_residual-in_err-duals.ensures.1 in
    let fault = rw (c.as_slice.ensures, c.as_slice-2.ensures) at (c.in_err-duals.ensures {u = tt}).spill in
    rw (returned.1, returned.2)
    (dual_fault value (place value c.args.self.now) (rational (value c.args.theta)) c.in_ok-solution.solution (c.in_ok-solution.ensures {u = tt}).solution g.F.Exact.range _ fault)

pub returns-in-Ok-None-clause-next : goal.returns-in-Ok-None-clause-next
returns-in-Ok-None-clause-next g c =
    let value = g.F.Exact.value in
    let h = (c.in_ok-solution.ensures {u = tt}).solution in
    let made = rw (c.as_slice.ensures, c.as_slice-2.ensures) at (c.in_ok-duals.ensures {u = tt}) in
    let stop = rw c.in-Ok-None.field-0-is at (c.in-Ok-None.ensures {u = tt}).leaving in
    (stop, stands_here value (place value c.args.self.now) (rational (value c.args.theta)) c.in_ok-solution.solution h c.in_ok-duals.duals made.size made.each)

pub returns-in_ok-row-in-Ok-Some-clause-next : goal.returns-in_ok-row-in-Ok-Some-clause-next
returns-in_ok-row-in-Ok-Some-clause-next g c =
    let left = rw c.in-Ok-Some.field-0-is at (c.in-Ok-Some.ensures {u = tt}).leaving in
    record { direction = c.in-Ok-Some.leave.direction; leaving = left.0; entering = (c.in_ok-row-in-Ok-Some.ensures {u = tt}).enters }
