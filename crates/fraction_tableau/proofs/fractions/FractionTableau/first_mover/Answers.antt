use Rattle.std.specs.Prelude.{◌≡◌, length, slice_index}
use Rattle.std.proofs.Common.{arith}
use Rattle.std.proofs.lemmas.Bool.Decides.{nat_tests}
use Rattle.std.proofs.lemmas.Result.{err_from_is_err_and}
use Rattle.loss_model.specs.Problem.{sample}
use Rattle.basis_inverse.specs.Square.{inverse_entry}
use Rattle.fraction_tableau.specs.declared.line.Line.{Line}
use Rattle.fraction_tableau.proofs.LeastItem.{first_on, order_fault, none_moves, column_fault}
use Rattle.fraction_tableau.proofs.NextSteps.{line_here, sides_here, coordinates_here}
use Rattle.fraction_tableau.proofs.fractions.FractionTableau.first_mover.Goals as goal

pub movers-requires-clause-line : goal.movers-requires-clause-line
movers-requires-clause-line g c κs within =
    let l : Line _ = record { tableau = c.args.self; residuals = c.as_slice.result; theta = c.zero.result; position = c.args.position; direction = c.args.direction } in
    line_here g.F.Exact.value l c.args.solution.now c.requires.kept c.requires.solution c.as_slice.ensures c.requires.position

pub movers-requires-clause-sides : goal.movers-requires-clause-sides
movers-requires-clause-sides g c κs within =
    let l : Line _ = record { tableau = c.args.self; residuals = c.as_slice.result; theta = c.zero.result; position = c.args.position; direction = c.args.direction } in
    sides_here g.F.Exact.value l c.args.solution.now c.as_slice-2.result.now c.requires.solution c.as_slice-2.ensures

pub movers-requires-clause-coords : goal.movers-requires-clause-coords
movers-requires-clause-coords g c κs within =
    let l : Line _ = record { tableau = c.args.self; residuals = c.as_slice.result; theta = c.zero.result; position = c.args.position; direction = c.args.direction } in
    let made = c.in_ok-coords.ensures {u = tt} in
    coordinates_here g.F.Exact.value l c.as_slice-3.result.now c.in_ok-coords.coords made.size made.each c.as_slice-3.ensures

pub returns-in_err-coords-clause-spill : goal.returns-in_err-coords-clause-spill
returns-in_err-coords-clause-spill g c =
    let value = g.F.Exact.value in
    let k = c.args.self.now in
    let returned = err_from_is_err_and c.from_residual.result c.from_residual.ensures.1 in
    rw (returned.1, returned.2) (column_fault value g.F.Exact.range (sample value k.problem) (slice_index k.rows) (inverse_entry value k.square) c.args.position c.args.direction _ c.requires.position
    (c.in_err-coords.ensures {u = tt}).spill)

pub returns-in_err-found-clause-spill : goal.returns-in_err-found-clause-spill
returns-in_err-found-clause-spill g c =
    let l : Line _ = record { tableau = c.args.self; residuals = c.as_slice.result; theta = c.zero.result; position = c.args.position; direction = c.args.direction } in
    let returned = err_from_is_err_and c.from_residual-in_err-found.result c.from_residual-in_err-found.ensures.1 in
    rw (returned.1, returned.2) (order_fault g.F.Exact.value l g.F.Exact.range _ (c.in_err-found.ensures {u = tt}).spill)

pub returns-then-is_empty-clause-first : goal.returns-then-is_empty-clause-first
returns-then-is_empty-clause-first g c =
    let l : Line _ = record { tableau = c.args.self; residuals = c.as_slice.result; theta = c.zero.result; position = c.args.position; direction = c.args.direction } in
    let empty : length c.in_ok-found.found.items ≡ 0 = grind (arith, nat_tests) in
    none_moves g.F.Exact.value l c.in_ok-found.found.items (c.in_ok-found.ensures {u = tt}).movers empty

pub returns-in_err-row-clause-spill : goal.returns-in_err-row-clause-spill
returns-in_err-row-clause-spill g c =
    let l : Line _ = record { tableau = c.args.self; residuals = c.as_slice.result; theta = c.zero.result; position = c.args.position; direction = c.args.direction } in
    let returned = err_from_is_err_and c.from_residual-in_err-row.result c.from_residual-in_err-row.ensures.1 in
    rw (returned.1, returned.2) (order_fault g.F.Exact.value l g.F.Exact.range _ (c.in_err-row.ensures {u = tt}).spill)

pub returns-clause-first : goal.returns-clause-first
returns-clause-first g c =
    let l : Line _ = record { tableau = c.args.self; residuals = c.as_slice.result; theta = c.zero.result; position = c.args.position; direction = c.args.direction } in
    first_on g.F.Exact.value l _ (c.in_ok-row.ensures {u = tt}).first
