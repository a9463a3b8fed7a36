use Rattle.std.proofs.Common.{◌≡◌, ◌+◌, ◌≤◌, length, refl, sym, ap, subst, ◌∙◌, arith}
use Rattle.std.proofs.lemmas.List.{length_push}
use Rattle.rank_tableau.specs.Walks.{exchange_of}
use Rattle.rank_inversion.specs.declared.walking.Walk.{Walk}
use Rattle.rank_inversion.specs.Walks.{IsAdvanced, IsEnded}
use Rattle.rank_inversion.proofs.WalkLaws.{along_begins, along_optimal, along_column, along_goes_on, along_ended, along_limit, along_halted}
use Rattle.rank_inversion.proofs.walking.walk_to_end.Goals as goal

pub loop-init : goal.loop-init
loop-init g c =
    record {
      along = along_begins g.F.Exact.value c.args.course.now c.args.from c.requires.begun;
      counted = ap length c.requires.begun.none;
    }

pub advance-requires-clause-column : goal.advance-requires-clause-column
advance-requires-clause-column g c κs within =
    let start = c.args.from.tableau in
    along_column g.F.Exact.value start.problem c.args.course.now start.rows c.loop.walk c.loop.invariant.along c.requires.column

pub advance-requires-clause-optimal : goal.advance-requires-clause-optimal
advance-requires-clause-optimal g c κs within =
    let start = c.args.from.tableau in
    along_optimal g.F.Exact.value start.problem c.args.course.now start.rows c.loop.walk c.loop.invariant.along

pub loop-preserved : goal.loop-preserved
loop-preserved g c =
    let value = g.F.Exact.value in
    let start = c.args.from.tableau in
    let made : IsAdvanced value c.args.course.now c.loop.walk c.advance.new.self = rw c.in-Ok-None.field-0-is at (c.in-Ok-None.ensures {u = tt}).next in
    record {
      along = along_goes_on value start.problem c.args.course.now start.rows c.loop.walk c.advance.new.self c.requires.costs c.loop.invariant.along made;
      counted = ap length made.steps ∙ length_push c.loop.walk.steps (exchange_of value made.step) ∙ ap (λ n. n + 1) c.loop.invariant.counted;
    }

pub returns-in-Ok-Some-clause-ended : goal.returns-in-Ok-Some-clause-ended
returns-in-Ok-Some-clause-ended g c =
    let value = g.F.Exact.value in
    let start = c.args.from.tableau in
    let found = rw c.in-Ok-Some.field-0-is at (c.in-Ok-Some.ensures {u = tt}).next in
    let short : length c.loop.walk.steps ≤ c.args.limit = omega (arith, c.loop.invariant.counted, c.loop-test.true) in
    rw (c.into_steps-steps.ensures)
    (subst (λ (w : Walk _). IsEnded value start.problem c.args.course.now start.rows c.args.limit (record { steps = w.steps; end = c.in-Ok-Some.end })) (sym found.0)
    (along_ended value start.problem c.args.course.now start.rows c.loop.walk c.loop.invariant.along c.args.limit c.in-Ok-Some.end found.1 short))

pub returns-in-Err-clause-halted : goal.returns-in-Err-clause-halted
returns-in-Err-clause-halted g c =
    let value = g.F.Exact.value in
    let start = c.args.from.tableau in
    let refused = (c.in-Err.ensures {u = tt}).refused in
    along_halted value start.problem c.args.course.now start.rows c.loop.walk c.loop.invariant.along c.args.limit g.F.Exact.range c.in-Err.short c.advance.new.self.steps c.halted.result
    refused.kept refused.spill (omega (arith, c.loop.invariant.counted, c.loop-test.true)) (rw (c.into_steps.ensures) at c.halted.ensures)

pub look-requires-clause-column : goal.look-requires-clause-column
look-requires-clause-column g c κs within =
    let start = c.args.from.tableau in
    along_column g.F.Exact.value start.problem c.args.course.now start.rows c.loop.walk c.loop.invariant.along c.requires.column

pub look-requires-clause-optimal : goal.look-requires-clause-optimal
look-requires-clause-optimal g c κs within =
    let start = c.args.from.tableau in
    along_optimal g.F.Exact.value start.problem c.args.course.now start.rows c.loop.walk c.loop.invariant.along

pub returns-in-Ok-End-clause-ended : goal.returns-in-Ok-End-clause-ended
returns-in-Ok-End-clause-ended g c =
    let start = c.args.from.tableau in
    let end = rw c.in-Ok-End.field-0-is at (c.in-Ok-End.ensures {u = tt}).next in
    let short : length c.loop.walk.steps ≤ c.args.limit = omega (arith, c.loop.invariant.counted, c.loop.auto.counter-end) in
    rw (c.into_steps-steps-in-Ok-End.ensures)
    (along_ended g.F.Exact.value start.problem c.args.course.now start.rows c.loop.walk c.loop.invariant.along c.args.limit c.in-Ok-End.end end short)

pub returns-in-Ok-Step-clause-halted : goal.returns-in-Ok-Step-clause-halted
returns-in-Ok-Step-clause-halted g c =
    let start = c.args.from.tableau in
    let step = rw c.in-Ok-Step.field-0-is at (c.in-Ok-Step.ensures {u = tt}).next in
    let count : length c.loop.walk.steps ≡ c.args.limit = omega (arith, c.loop.invariant.counted, c.loop-test.false, c.loop.auto.counter-end) in
    rw (c.into_steps-steps-in-Ok-Step.ensures)
    (along_limit g.F.Exact.value start.problem c.args.course.now start.rows c.loop.walk c.loop.invariant.along c.args.limit c.in-Ok-Step.field-0-0 step count)

pub returns-in-Err-look-clause-halted : goal.returns-in-Err-look-clause-halted
returns-in-Err-look-clause-halted g c =
    let value = g.F.Exact.value in
    let start = c.args.from.tableau in
    let short : length c.loop.walk.steps ≤ c.args.limit = omega (arith, c.loop.invariant.counted, c.loop.auto.counter-end) in
    along_halted value start.problem c.args.course.now start.rows c.loop.walk c.loop.invariant.along c.args.limit g.F.Exact.range c.in-Err-look.short c.loop.walk.steps c.halted-in-Err-look.result
    refl (c.in-Err-look.ensures {u = tt}).spill short (rw (c.into_steps-in-Err-look.ensures) at c.halted-in-Err-look.ensures)
