use Rattle.std.proofs.Common.{refl, sym, subst, arith}
use Rattle.rational_laws.specs.Fraction.{rational}
use Rattle.tableau_model.specs.Questions.{solving}
use Rattle.tableau.specs.Bodies.{place_of}
use Rattle.tableau.specs.Solving.{IsHalted}
use Rattle.tableau.proofs.Halts.{refusal_kept, refusal_halts, limit_reached}
use Rattle.tableau.proofs.solving.solve_over.Goals as goal

pub loop-init : goal.loop-init
loop-init g c = record { underway = c.requires.begun.underway (rational (g.F.Exact.value c.args.theta)); same = refl; counted = c.requires.begun.none }

pub returns-in-Err-clause-halted : goal.returns-in-Err-clause-halted
returns-in-Err-clause-halted g c =
    let value = g.F.Exact.value in
    let u = c.loop.solve in
    let now = c.loop.invariant in
    let h = place_of value u.tableau in
    let task = (place_of value c.args.from.tableau).task in
    let theta = rational (value c.args.theta) in
    refusal_halts value g.F.Exact.range task theta c.args.limit h now.same now.underway.is_place u.trail c.advance.new.self.trail c.in-Err.refused c.halt.result
    now.underway.lawful (omega (arith, now.counted, c.loop-test.true)) (c.in-Err.ensures {u = tt}).refused c.halt.ensures

pub returns-in-Ok-Some-clause-halted : goal.returns-in-Ok-Some-clause-halted
returns-in-Ok-Some-clause-halted g c =
    let value = g.F.Exact.value in
    let u = c.loop.solve in
    let now = c.loop.invariant in
    let h = place_of value u.tableau in
    let task = (place_of value c.args.from.tableau).task in
    let theta = rational (value c.args.theta) in
    let step = rw c.in-Ok-Some.field-0-is at (c.in-Ok-Some.ensures {u = tt}).step in
    subst (IsHalted value g.F.Exact.range task theta c.args.limit) (sym c.halt_at_limit.ensures)
    (limit_reached value g.F.Exact.range task theta c.args.limit h now.same now.underway.is_place u.trail c.in-Ok-Some.field-0-0.position c.in-Ok-Some.field-0-0.row
    now.underway.lawful (omega (arith, now.counted, c.loop-test.false, c.loop.auto.counter-end)) step)

pub returns-in-Err-solving_step-clause-halted : goal.returns-in-Err-solving_step-clause-halted
returns-in-Err-solving_step-clause-halted g c =
    let value = g.F.Exact.value in
    let u = c.loop.solve in
    let now = c.loop.invariant in
    let h = place_of value u.tableau in
    let task = (place_of value c.args.from.tableau).task in
    let theta = rational (value c.args.theta) in
    refusal_halts value g.F.Exact.range task theta c.args.limit h now.same now.underway.is_place u.trail u.trail c.in-Err-solving_step.refused c.halt-in-Err-solving_step.result
    now.underway.lawful (omega (arith, now.counted, c.loop-test.false, c.loop.auto.counter-end))
    (refusal_kept value g.F.Exact.range h (solving theta) u.trail c.in-Err-solving_step.refused (c.in-Err-solving_step.ensures {u = tt}).refused) c.halt-in-Err-solving_step.ensures
