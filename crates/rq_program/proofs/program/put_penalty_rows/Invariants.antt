use Rattle.std.specs.Prelude.{◌≡◌, ◌++◌, map, take}
use Rattle.loss_model.specs.Values.{exact_row}
use Rattle.rq_program.specs.Programs.{penalty_row}
use Rattle.rq_program.proofs.program.put_penalty_rows.Given as goal

abbrev pub invariant-loop-penalty : goal.invariant-loop-penalty
invariant-loop-penalty l =
    map exact_row l.rows.items ≡ map exact_row l.initial.rows.items ++ map (penalty_row l.width) (take l.penalty-index l.penalties)
