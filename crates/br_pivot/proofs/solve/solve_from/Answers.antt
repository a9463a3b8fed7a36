use Rattle.std.proofs.Common.{sym, ◌∙◌}
use Rattle.rational_laws.specs.Fraction.{rational}
use Rattle.tableau.specs.Bodies.{place_of}
use Rattle.br_pivot.proofs.Limits.{optimum_answers}
use Rattle.br_pivot.proofs.Halts.{halt_answers}
use Rattle.br_pivot.proofs.solve.solve_from.Goals as goal

pub returns-in-Ok-clause-answer : goal.returns-in-Ok-clause-answer
returns-in-Ok-clause-answer g c =
    let value = g.F.Exact.value in
    optimum_answers value g.F.Exact.range (place_of value c.args.begun.tableau).task.problem (rational (value c.args.theta)) c.args.limit
    c.requires.costs c.in-Ok.optimum (c.in-Ok.ensures {u = tt}).optimum

pub returns-in_ok-stop-in-Err-clause-answer : goal.returns-in_ok-stop-in-Err-clause-answer
returns-in_ok-stop-in-Err-clause-answer g c =
    let value = g.F.Exact.value in
    halt_answers value g.F.Exact.range (place_of value c.args.begun.tableau).task (rational (value c.args.theta)) c.args.limit
    c.in-Err.halt c.in_ok-stop-in-Err.stop (sym c.stop_of.ensures ∙ c.in_ok-stop-in-Err.was) (c.in-Err.ensures {u = tt}).halted
