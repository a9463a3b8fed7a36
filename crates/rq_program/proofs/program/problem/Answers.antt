use Rattle.std.proofs.Common.{rules, ◌≡◌, map, length, arith, ap}
use Rattle.loss_model.specs.Values.{exact_row}
use Rattle.rq_program.specs.Programs.{rows_of}
use Rattle.rq_program.proofs.DataRows.{has_data_rows}
use Rattle.rq_program.proofs.Rows.{shaped}
use Rattle.rq_program.proofs.program.problem.Goals as goal

pub returns-clause-shaped : goal.returns-clause-shaped
returns-clause-shaped c =
    let rows : map exact_row c.from.result ≡ rows_of c.args.design.now c.args.smoothing.now = search rules in
    shaped c.args.design.now c.args.smoothing.now _ c.requires
    (omega (arith, ap length c.as_slice-width.ensures, ap length c.as_slice.ensures)) rows
    (omega (arith, ap length c.as_slice-width.ensures, ap length c.as_slice.ensures))
    (omega (arith, ap length c.as_slice-2.ensures, ap length c.as_slice-3.ensures))

pub returns-clause-data_rows : goal.returns-clause-data_rows
returns-clause-data_rows c =
    let rows : map exact_row c.from.result ≡ rows_of c.args.design.now c.args.smoothing.now = search rules in
    has_data_rows c.args.design.now c.args.smoothing.now _ c.requires.lists rows
