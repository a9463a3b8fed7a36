use Rattle.std.proofs.Common.{◌≡◌, ◌≤◌, ◌-◌, suc, length, refl, arith, pos, ◌≤ℤ◌, ◌<ℤ◌}
use Rattle.std.proofs.lemmas.Int.{ints}
use Rattle.std.proofs.lemmas.Result.{err_from_is_err_and}
use Rattle.rational_laws.specs.Fraction.{rational}
use Rattle.fraction_tableau.proofs.SlopeLaws.{from_sign, from_negative_sign}
use Rattle.fraction_tableau.proofs.Passed.{begun, slope_begun, negative_begun, first_mover, first_until, first_passed, first_enters, first_next, passing_next, exhausted, few}
use Rattle.fraction_tableau.proofs.Moving.{line_fault}
use Rattle.fraction_tableau.proofs.search.entering.Goals as goal

pub returns-in_err-make_heap-clause-spill : goal.returns-in_err-make_heap-clause-spill
returns-in_err-make_heap-clause-spill g c =
    let returned = err_from_is_err_and c.from_residual.result c.from_residual.ensures.1 in
    rw (returned.1, returned.2) (line_fault g.F.Exact.value c.args.line.now g.F.Exact.range c.requires.descent _ (c.in_err-make_heap.ensures {u = tt}).spill)

pub returns-in_err-pop-clause-spill : goal.returns-in_err-pop-clause-spill
returns-in_err-pop-clause-spill g c =
    let returned = err_from_is_err_and c.from_residual-in_err-pop.result c.from_residual-in_err-pop.ensures.1 in
    rw (returned.1, returned.2) (line_fault g.F.Exact.value c.args.line.now g.F.Exact.range c.requires.descent _ (c.in_err-pop.ensures {u = tt}).spill)

pub loop-end-init : goal.loop-end-init
loop-end-init g c =
    let value = g.F.Exact.value in
    let l = c.args.line.now in
    let made = c.in_ok-make_heap.ensures {u = tt} in
    record {
      passing = begun value l c.make_heap.new.heap (length c.make_heap.new.heap) refl made.movers made.heap;
      slope = slope_begun value l c.make_heap.new.heap (length c.make_heap.new.heap) (rational (value c.args.slope)) refl c.requires.slope;
      negative = negative_begun value l (rational (value c.args.slope)) c.requires.descent c.requires.slope;
    }

pub overflow_cast-passed : goal.overflow_cast-passed
overflow_cast-passed g c =
    let small : length c.loop-end.heap ≤ 16384 = few g.F.Exact.value c.args.line.now c.loop-end.heap c.requires.descent.line c.loop-end.invariant.passing.movers in
    omega (arith, small)

pub pass-requires-clause-mover : goal.pass-requires-clause-mover
pass-requires-clause-mover g c κs within =
    first_mover g.F.Exact.value c.args.line.now c.requires.descent.line c.loop-end.heap c.loop-end.end c.loop-end.invariant.passing c.loop-end-test.true c.index-heap-0.result c.index-heap-0.is

pub pass-requires-clause-slope : goal.pass-requires-clause-slope
pass-requires-clause-slope g c κs within =
    first_until g.F.Exact.value c.args.line.now c.requires.descent.line c.loop-end.heap c.loop-end.end c.loop-end.invariant.passing c.loop-end-test.true c.index-heap-0.result c.index-heap-0.is
    (rational (g.F.Exact.value c.loop-end.slope)) c.loop-end.invariant.slope

pub pass-requires-clause-passed : goal.pass-requires-clause-passed
pass-requires-clause-passed g c κs within =
    first_passed g.F.Exact.value c.args.line.now c.requires.descent.line c.loop-end.heap c.loop-end.end c.loop-end.invariant.passing c.loop-end-test.true c.index-heap-0.result c.index-heap-0.is

pub pass-requires-clause-few : goal.pass-requires-clause-few
pass-requires-clause-few g c κs within =
    let small : length c.loop-end.heap ≤ 16384 = few g.F.Exact.value c.args.line.now c.loop-end.heap c.requires.descent.line c.loop-end.invariant.passing.movers in
    omega (arith, small)

pub returns-then-sign-ge0-clause-enters : goal.returns-then-sign-ge0-clause-enters
returns-then-sign-ge0-clause-enters g c =
    let value = g.F.Exact.value in
    let above : pos 0 ≤ℤ c.sign.result = omega (arith, ints) in
    first_enters value c.args.line.now c.requires.descent.line c.loop-end.heap c.loop-end.end c.loop-end.invariant.passing c.loop-end-test.true c.index-heap-0.result c.index-heap-0.is
    (rational (value c.loop-end.slope)) (rational (value c.in_ok-next.next)) c.loop-end.invariant.slope c.loop-end.invariant.negative (c.in_ok-next.ensures {u = tt}).exact
    (from_sign (rational (value c.in_ok-next.next)) c.sign.result c.sign.ensures above)

pub loop-end-preserved : goal.loop-end-preserved
loop-end-preserved g c =
    let value = g.F.Exact.value in
    let l = c.args.line.now in
    let heap = c.loop-end.heap in
    let end = c.loop-end.end in
    let popped = c.in_ok-pop.ensures {u = tt} in
    let size : length c.pop.new.heap ≡ length heap = omega arith in
    let before : suc (end - 1) ≡ end = omega (arith, c.loop-end-test.true) in
    let below : c.sign.result <ℤ pos 0 = omega (arith, ints) in
    record {
      passing = passing_next value l c.requires.descent.line heap end c.loop-end.invariant.passing c.loop-end-test.true c.pop.new.heap (end - 1) size before popped.popped popped.movers popped.heap;
      slope = first_next value l c.requires.descent.line heap end c.loop-end.invariant.passing c.loop-end-test.true c.index-heap-0.result c.index-heap-0.is c.pop.new.heap (end - 1) size before popped.popped
          (rational (value c.loop-end.slope)) (rational (value c.in_ok-next.next)) c.loop-end.invariant.slope (c.in_ok-next.ensures {u = tt}).exact;
      negative = from_negative_sign (rational (value c.in_ok-next.next)) c.sign.result c.sign.ensures below;
    }

pub unreachable-requires : goal.unreachable-requires
unreachable-requires g c =
    let none : c.loop-end.end ≡ 0 = omega (arith, c.loop-end-test.false) in
    c.loop-end.invariant.negative (exhausted g.F.Exact.value c.args.line.now c.requires.descent c.loop-end.heap c.loop-end.end (rational (g.F.Exact.value c.loop-end.slope)) none c.loop-end.invariant.passing c.loop-end.invariant.slope)
