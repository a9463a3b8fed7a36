use Rattle.std.proofs.Common.{◌<◌, length, ap, arith}
use Rattle.basic_solution.proofs.Filled.{values_more}
use Rattle.basic_solution.proofs.Exits.{by_exit}
use Rattle.basic_solution.proofs.primal.residuals.Goals as goal

pub loop-row-preserved : goal.loop-row-preserved
loop-row-preserved g c = values_more g.F.Exact.value _ _ _ c.in_ok-add.ensures.added c.loop-row.invariant (c.in_ok-residual_at.ensures {u = tt}).exact

pub overflow_cast-row-end : goal.overflow_cast-row-end
overflow_cast-row-end g c = omega (arith, ap length c.as_slice.ensures, c.requires.shaped.rows)

pub residual_at-requires-clause-inside : goal.residual_at-requires-clause-inside
residual_at-requires-clause-inside g c κs within = omega (arith, ap length c.as_slice.ensures, c.loop-row-test.true)

pub returns-in_err-residual_at-clause-spill : goal.returns-in_err-residual_at-clause-spill
returns-in_err-residual_at-clause-spill g c =
    let inside : c.loop-row.row < length c.args.problem.now.rows = omega (arith, ap length c.as_slice.ensures, c.loop-row-test.true) in
    by_exit c.from_residual.result _ _ c.from_residual.ensures.1 (c.loop-row.row, inside, (c.in_err-residual_at.ensures {u = tt}).spilled)

pub returns-in_err-add-clause-spill : goal.returns-in_err-add-clause-spill
returns-in_err-add-clause-spill g c = by_exit c.from_residual-in_err-add.result _ _ c.from_residual-in_err-add.ensures.1 tt

pub returns-clause-each : goal.returns-clause-each
returns-clause-each g c i inside = c.loop-row.invariant.each i (omega (arith, ap length c.as_slice.ensures, c.loop-row-test.false))
