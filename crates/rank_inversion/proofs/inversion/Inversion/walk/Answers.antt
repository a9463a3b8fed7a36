use Rattle.rank_inversion.proofs.Joined.{asked_costs}
use Rattle.rank_inversion.proofs.inversion.Inversion.walk.Goals as goal

pub solved_basis-requires-after_bounds : goal.solved_basis-requires-after_bounds
solved_basis-requires-after_bounds g c κs within = record { shaped = c.requires.ready.askable.shaped; inverse = c.requires.ready.solution.inverse }

pub walk_to_end-requires-clause-column : goal.walk_to_end-requires-clause-column
walk_to_end-requires-clause-column g c κs within = rw (c.course-course.ensures, c.in-Ok.ensures {u = tt}) c.requires.ready.askable.column

pub walk_to_end-requires-clause-costs : goal.walk_to_end-requires-clause-costs
walk_to_end-requires-clause-costs g c κs within =
    let v = c.args.self.now in
    rw (c.course-course.ensures, c.in-Ok.ensures {u = tt}) (asked_costs g.F.Exact.value v.problem.now v.asked c.requires.ready.askable)

pub walk_to_end-requires-clause-begun : goal.walk_to_end-requires-clause-begun
walk_to_end-requires-clause-begun g c κs within =
    rw (c.course-course.ensures, c.in-Ok.ensures {u = tt})
    (record {
      kept = record { shaped = c.requires.ready.askable.shaped; inverse = c.requires.ready.solution.inverse };
      none = c.new.ensures;
      now = c.zero.ensures;
      stop = c.requires.ready.solution.stop;
    })

pub returns-clause-ended : goal.returns-clause-ended
returns-clause-ended g c = rw (c.course-course.ensures, c.in-Ok.ensures {u = tt}) at c.walk_to_end.ensures.ended

pub returns-clause-halted : goal.returns-clause-halted
returns-clause-halted g c = rw (c.course-course.ensures, c.in-Ok.ensures {u = tt}) at c.walk_to_end.ensures.halted
