-- The walk goes on by a step, up to its end.
use Rattle.std.proofs.Common.{◌+◌, ◌≤◌, length, sym, ap, subst, ◌∙◌, arith}
use Rattle.std.proofs.lemmas.List.{length_push}
use Rattle.rank_tableau.specs.declared.walking.Walk.{Walk}
use Rattle.rank_tableau.specs.Founds.{bound_by}
use Rattle.rank_tableau.specs.Walks.{exchange_of, IsAdvanced, IsEnded}
use Rattle.rank_tableau.proofs.Along.{along_goes_on, along_ended}
use Rattle.rank_tableau.proofs.walking.Walk.run.Goals as goal

pub loop-init : goal.loop-init
loop-init g c = record { along = c.requires.begun; counted = ap length c.requires.none }

pub loop-preserved : goal.loop-preserved
loop-preserved g c =
    let value = g.F.Exact.value in
    let k = c.args.self.now.start.now in
    let made : IsAdvanced value c.args.course.now c.args.reach.now c.loop.self c.advance.new.self = rw (c.in-Ok-None.field-0-is) at (c.in-Ok-None.ensures {u = tt}) in
    record {
      along = along_goes_on value k.problem c.args.course.now (bound_by k c.args.course.now.column c.args.reach.now) k.rows c.args.reach.now c.loop.self c.advance.new.self c.requires.costs c.loop.invariant.along made;
      counted = ap length made.steps ∙ length_push c.loop.self.steps (exchange_of value made.step) ∙ ap (λ n. n + 1) c.loop.invariant.counted;
    }

pub returns-in-Ok-Some : goal.returns-in-Ok-Some
returns-in-Ok-Some g c =
    let value = g.F.Exact.value in
    let k = c.args.self.now.start.now in
    let found = rw (c.in-Ok-Some.field-0-is) at (c.in-Ok-Some.ensures {u = tt}) in
    let short : length c.loop.self.steps ≤ c.args.limit = omega (arith, c.loop.invariant.counted, c.loop-test.true) in
    subst (λ (w : Walk _). IsEnded value k.problem c.args.course.now (bound_by k c.args.course.now.column c.args.reach.now) k.rows c.args.limit (record { steps = w.steps; end = c.in-Ok-Some.end })) (sym found.0)
    (along_ended value k.problem c.args.course.now (bound_by k c.args.course.now.column c.args.reach.now) k.rows c.args.reach.now c.loop.self c.loop.invariant.along c.args.limit c.in-Ok-Some.end found.1 short)

pub returns-in-Ok-End : goal.returns-in-Ok-End
returns-in-Ok-End g c =
    let value = g.F.Exact.value in
    let k = c.args.self.now.start.now in
    let end = rw (c.in-Ok-End.field-0-is, c.here.ensures) at (c.in-Ok-End.ensures {u = tt}) in
    let short : length c.loop.self.steps ≤ c.args.limit = omega (arith, c.loop.invariant.counted, c.loop.auto.counter-end) in
    along_ended value k.problem c.args.course.now (bound_by k c.args.course.now.column c.args.reach.now) k.rows c.args.reach.now c.loop.self c.loop.invariant.along c.args.limit c.in-Ok-End.end end short
