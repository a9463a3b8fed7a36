use Rattle.rational_laws.specs.Fraction.{rational}
use Rattle.rank_inversion.proofs.Causes.{bound_there, by_gram, by_test, by_solve, by_walks}
use Rattle.rank_inversion.proofs.Inverted.{right_is, stop_is}
use Rattle.rank_inversion.proofs.Joined.{asked_costs}
use Rattle.rank_inversion.proofs.inversion.by_parts.Goals as goal

pub returns-in-Err : goal.returns-in-Err
returns-in-Err g c =
    let value = g.F.Exact.value in
    let range = g.F.Exact.range in
    let p = c.args.problem.now in
    let asked = c.args.asked in
    let stop = c.in-Err.stop in
    stop_is value p asked c.args.limit c.requires.asked range stop
    (by_gram value p asked.column (rational (value asked.tau)) (rational (value asked.crit)) range c.args.limit stop (c.in-Err.ensures {u = tt}).stopped)

pub returns-in-Err-rank_test : goal.returns-in-Err-rank_test
returns-in-Err-rank_test g c =
    let value = g.F.Exact.value in
    let range = g.F.Exact.range in
    let p = c.args.problem.now in
    let asked = c.args.asked in
    let stop = c.in-Err-rank_test.stop in
    stop_is value p asked c.args.limit c.requires.asked range stop
    (by_test value p asked.column (rational (value asked.tau)) (rational (value asked.crit)) range c.args.limit stop (c.in-Err-rank_test.ensures {u = tt}).stopped)

pub solve_at-requires-clause-costs : goal.solve_at-requires-clause-costs
solve_at-requires-clause-costs g c κs within = asked_costs g.F.Exact.value c.args.problem.now c.args.asked c.requires.asked

pub returns-in-Err-solve_at : goal.returns-in-Err-solve_at
returns-in-Err-solve_at g c =
    let value = g.F.Exact.value in
    let range = g.F.Exact.range in
    let p = c.args.problem.now in
    let asked = c.args.asked in
    let stop = c.in-Err-solve_at.stop in
    let bound = bound_there value p asked.column (rational (value asked.tau)) (rational (value asked.crit)) c.in-Ok.gram.inverse (c.in-Ok.ensures {u = tt}).inverted.inverse c.requires.asked.column in
    stop_is value p asked c.args.limit c.requires.asked range stop
    (by_solve value p asked.column (rational (value asked.tau)) (rational (value asked.crit)) range c.args.limit bound.0 bound.1 stop (c.in-Err-solve_at.ensures {u = tt}).stopped)

pub returns-in-Ok-interval_from : goal.returns-in-Ok-interval_from
returns-in-Ok-interval_from g c =
    right_is g.F.Exact.value c.args.problem.now c.args.asked c.args.limit c.requires.asked c.in-Ok-interval_from.interval (c.in-Ok-interval_from.ensures {u = tt}).interval

pub returns-in-Err-interval_from : goal.returns-in-Err-interval_from
returns-in-Err-interval_from g c =
    let value = g.F.Exact.value in
    let range = g.F.Exact.range in
    let p = c.args.problem.now in
    let asked = c.args.asked in
    let stop = c.in-Err-interval_from.stop in
    stop_is value p asked c.args.limit c.requires.asked range stop
    (by_walks value p asked.column (rational (value asked.tau)) (rational (value asked.crit)) range c.args.limit stop (c.in-Err-interval_from.ensures {u = tt}).stopped)
