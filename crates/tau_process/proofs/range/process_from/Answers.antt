use Rattle.std.proofs.Common.{sym, subst, ◌∙◌}
use Rattle.rational_laws.specs.Fraction.{rational}
use Rattle.tableau_model.specs.Places.{Task}
use Rattle.tableau.specs.Bodies.{place_of}
use Rattle.tableau.specs.Walking.{IsWalkDone, IsWalkHalted}
use Rattle.tau_process.proofs.Ranges.{done_answers, solve_answers, walk_answers}
use Rattle.tau_process.proofs.range.process_from.Goals as goal

pub returns-in-Err-clause-answer : goal.returns-in-Err-clause-answer
returns-in-Err-clause-answer g c =
    let value = g.F.Exact.value in
    let task = (place_of value c.args.begun.tableau).task in
    solve_answers value task (rational (value c.args.lo)) (rational (value c.args.hi)) c.args.limit g.F.Exact.range
    c.in-Err.halt c.in_ok-stop-in-Err.stop (sym c.stop_of.ensures ∙ c.in_ok-stop-in-Err.was) c.in-Err.ensures.halted

pub returns-in-Ok-walk_range-clause-answer : goal.returns-in-Ok-walk_range-clause-answer
returns-in-Ok-walk_range-clause-answer g c =
    let value = g.F.Exact.value in
    let task = (place_of value c.args.begun.tableau).task in
    let lo = rational (value c.args.lo) in
    let hi = rational (value c.args.hi) in
    let walked = c.in-Ok-walk_range.walked in
    done_answers value task lo hi c.args.limit c.requires.costs_lo c.requires.costs_hi walked
    (subst (λ (t : Task _). IsWalkDone value t lo hi c.args.limit walked) c.in-Ok.ensures.solved.same c.in-Ok-walk_range.ensures.done)
    g.F.Exact.range c.requires.ordered

pub returns-in_ok-stop-in-Err-walk_range-clause-answer : goal.returns-in_ok-stop-in-Err-walk_range-clause-answer
returns-in_ok-stop-in-Err-walk_range-clause-answer g c =
    let value = g.F.Exact.value in
    let task = (place_of value c.args.begun.tableau).task in
    let lo = rational (value c.args.lo) in
    let hi = rational (value c.args.hi) in
    let halt = c.in-Err-walk_range.halt in
    walk_answers value task lo hi c.args.limit g.F.Exact.range halt c.in_ok-stop-in-Err-walk_range.stop
    (sym c.stop_of-in-Err-walk_range.ensures ∙ c.in_ok-stop-in-Err-walk_range.was)
    (subst (λ (t : Task _). IsWalkHalted value g.F.Exact.range t lo hi c.args.limit halt) c.in-Ok.ensures.solved.same c.in-Err-walk_range.ensures.halted)
