use Rattle.std.specs.Prelude.{◌≡◌, ◌++◌, map, take, zip}
use Rattle.loss_model.specs.Values.{exact_row}
use Rattle.rq_program.specs.Programs.{data_row}
use Rattle.rq_program.proofs.program.put_data_rows.Given as goal

abbrev pub invariant-loop-index : goal.invariant-loop-index
invariant-loop-index l =
    map exact_row l.rows.items ≡ map exact_row l.initial.rows.items ++ map data_row (take l.index (zip l.design l.smooth))
