use Rattle.whole_steps.proofs.solving.solving_step.Goals as goal

pub entering-requires-clause-leave : goal.entering-requires-clause-leave
entering-requires-clause-leave c = rw c.in-Ok-Some.field-0-is at (c.in-Ok-Some.ensures {u = tt})

pub returns-in-Ok-None : goal.returns-in-Ok-None
returns-in-Ok-None c = rw c.in-Ok-None.field-0-is at (c.in-Ok-None.ensures {u = tt})

pub returns-in_ok-row-in-Ok-Some : goal.returns-in_ok-row-in-Ok-Some
returns-in_ok-row-in-Ok-Some c =
    let left = rw c.in-Ok-Some.field-0-is at (c.in-Ok-Some.ensures {u = tt}) in
    record { direction = c.in-Ok-Some.leave.direction; leaving = left.leaving; entering = c.in_ok-row-in-Ok-Some.ensures {u = tt} }
