use Rattle.std.proofs.lemmas.Result.{IfOk-weaker, IfErr-weaker, err_from_is_err_and}
use Rattle.std.proofs.Common.{slice_index}
use Rattle.rational_laws.specs.Fraction.{rational}
use Rattle.loss_model.specs.Problem.{sample}
use Rattle.basis_inverse.specs.Square.{inverse_entry}
use Rattle.fraction_tableau.specs.declared.line.Line.{Line}
use Rattle.fraction_tableau.proofs.NextSteps.{column_fault, line_here, sides_here, coordinates_here, first_here, entering_here, descent_fault}
use Rattle.fraction_tableau.proofs.Moving.{line_fault}
use Rattle.fraction_tableau.proofs.fractions.FractionTableau.entering_row.Goals as goal

pub movers-requires-clause-line : goal.movers-requires-clause-line
movers-requires-clause-line g c κs within =
    let l : Line _ = record { tableau = c.args.self; residuals = c.as_slice.result; theta = c.args.theta; position = c.args.leave.position; direction = c.args.leave.direction } in
    line_here g.F.Exact.value l c.args.solution.now c.requires.kept c.requires.solution c.as_slice.ensures c.requires.leaving.position

pub movers-requires-clause-sides : goal.movers-requires-clause-sides
movers-requires-clause-sides g c κs within =
    let l : Line _ = record { tableau = c.args.self; residuals = c.as_slice.result; theta = c.args.theta; position = c.args.leave.position; direction = c.args.leave.direction } in
    sides_here g.F.Exact.value l c.args.solution.now c.as_slice-2.result.now c.requires.solution c.as_slice-2.ensures

pub movers-requires-clause-coords : goal.movers-requires-clause-coords
movers-requires-clause-coords g c κs within =
    let l : Line _ = record { tableau = c.args.self; residuals = c.as_slice.result; theta = c.args.theta; position = c.args.leave.position; direction = c.args.leave.direction } in
    let made = c.in_ok-coords.ensures {u = tt} in
    coordinates_here g.F.Exact.value l c.as_slice-3.result.now c.in_ok-coords.coords made.size made.each c.as_slice-3.ensures

pub entering-requires-clause-descent : goal.entering-requires-clause-descent
entering-requires-clause-descent g c κs within =
    let l : Line _ = record { tableau = c.args.self; residuals = c.as_slice.result; theta = c.args.theta; position = c.args.leave.position; direction = c.args.leave.direction } in
    record {
      line = line_here g.F.Exact.value l c.args.solution.now c.requires.kept c.requires.solution c.as_slice.ensures c.requires.leaving.position;
      costs = c.requires.costs;
      leaving = c.requires.leaving;
    }

pub entering-requires-clause-slope : goal.entering-requires-clause-slope
entering-requires-clause-slope g c κs within =
    let l : Line _ = record { tableau = c.args.self; residuals = c.as_slice.result; theta = c.args.theta; position = c.args.leave.position; direction = c.args.leave.direction } in
    first_here g.F.Exact.value l (rational (g.F.Exact.value c.args.leave.slope)) c.requires.slope

pub returns-in_err-coords-clause-spill : goal.returns-in_err-coords-clause-spill
returns-in_err-coords-clause-spill g c =
    let returned = err_from_is_err_and c.from_residual.result c.from_residual.ensures.1 in
    rw (returned.1, returned.2)
    (column_fault g.F.Exact.value g.F.Exact.range (sample g.F.Exact.value c.args.self.now.problem) (slice_index c.args.self.now.rows) (inverse_entry g.F.Exact.value c.args.self.now.square)
    (rational (g.F.Exact.value c.args.theta)) c.args.leave.position _ c.requires.leaving.position (c.in_err-coords.ensures {u = tt}).spill)

pub returns-in_err-heap-clause-spill : goal.returns-in_err-heap-clause-spill
returns-in_err-heap-clause-spill g c =
    let l : Line _ = record { tableau = c.args.self; residuals = c.as_slice.result; theta = c.args.theta; position = c.args.leave.position; direction = c.args.leave.direction } in
    let returned = err_from_is_err_and c.from_residual-in_err-heap.result c.from_residual-in_err-heap.ensures.1 in
    rw (returned.1, returned.2) (descent_fault g.F.Exact.value l g.F.Exact.range _ (line_fault g.F.Exact.value l g.F.Exact.range (record {
      line = line_here g.F.Exact.value l c.args.solution.now c.requires.kept c.requires.solution c.as_slice.ensures c.requires.leaving.position;
      costs = c.requires.costs;
      leaving = c.requires.leaving;
    }) _ (c.in_err-heap.ensures {u = tt}).spill))

pub returns-clause-enters : goal.returns-clause-enters
returns-clause-enters g c =
    let l : Line _ = record { tableau = c.args.self; residuals = c.as_slice.result; theta = c.args.theta; position = c.args.leave.position; direction = c.args.leave.direction } in
    IfOk-weaker c.entering.result _ _ (entering_here g.F.Exact.value l) c.entering.ensures.enters

pub returns-clause-spill : goal.returns-clause-spill
returns-clause-spill g c =
    let l : Line _ = record { tableau = c.args.self; residuals = c.as_slice.result; theta = c.args.theta; position = c.args.leave.position; direction = c.args.leave.direction } in
    IfErr-weaker c.entering.result _ _ (descent_fault g.F.Exact.value l g.F.Exact.range) c.entering.ensures.spill
