use Rattle.loss_model.specs.Values.{exact_row}
use Rattle.rq_program.specs.Programs.{penalty_row}
use Rattle.rq_program.proofs.program.put_penalty_rows.Goals as goal
use Rattle.rational_laws.proofs.Lists.{mapped_more}

pub loop-penalty-preserved : goal.loop-penalty-preserved
loop-penalty-preserved c =
    mapped_more exact_row (penalty_row c.args.width) c.args.penalties.now c.loop-penalty.penalty-index _ _ _ _ _ c.loop-penalty-test.true c.penalty-item.is c.loop-penalty.invariant
    c.in_ok-push.ensures.items c.in_ok-penalty_row.ensures.made
