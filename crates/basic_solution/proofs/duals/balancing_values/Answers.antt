use Rattle.std.proofs.Common.{arith}
use Rattle.basic_solution.proofs.Filled.{values_more}
use Rattle.basic_solution.proofs.Exits.{by_exit}
use Rattle.basic_solution.proofs.duals.balancing_values.Goals as goal

pub loop-position-preserved : goal.loop-position-preserved
loop-position-preserved g c = values_more g.F.Exact.value _ _ _ c.in_ok-add.ensures.added c.loop-position.invariant (c.in_ok-balancing_value.ensures {u = tt}).exact

pub overflow_cast-position : goal.overflow_cast-position
overflow_cast-position g c = omega (arith, c.loop-position-test.true, c.requires.size, c.requires.inverse.short)

pub returns-in_err-balancing_value-clause-spill : goal.returns-in_err-balancing_value-clause-spill
returns-in_err-balancing_value-clause-spill g c = by_exit c.from_residual.result _ _ c.from_residual.ensures.1 (c.loop-position.position, c.loop-position-test.true, (c.in_err-balancing_value.ensures {u = tt}).spilled)

pub returns-in_err-add-clause-spill : goal.returns-in_err-add-clause-spill
returns-in_err-add-clause-spill g c = by_exit c.from_residual-in_err-add.result _ _ c.from_residual-in_err-add.ensures.1 tt
