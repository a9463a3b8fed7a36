use Rattle.std.proofs.Common.{◌≡◌, ◌++◌}
use Rattle.std.specs.List.{AllZip}
use Rattle.std.specs.Vec.Iter.{into_iter_items}
use Rattle.rq_fan.proofs.halves.in_turn.Given as goal

-- each job so far has its answer, and the others are left
abbrev pub invariant-loop-job : goal.invariant-loop-job
invariant-loop-job g l = (l.yielded ++ into_iter_items l.job-iterator ≡ l.fn.jobs.items) × AllZip g.J.Work.answers l.yielded l.answers.items
