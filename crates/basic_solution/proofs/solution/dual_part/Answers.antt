use Rattle.basic_solution.proofs.Exits.{by_exit}
use Rattle.basic_solution.proofs.solution.dual_part.Goals as goal

pub returns-in_err-constant-clause-spill : goal.returns-in_err-constant-clause-spill
returns-in_err-constant-clause-spill g c = by_exit c.from_residual.result _ _ c.from_residual.ensures.1 (c.in_err-constant.ensures {u = tt}).spill

pub returns-in_err-linear-clause-spill : goal.returns-in_err-linear-clause-spill
returns-in_err-linear-clause-spill g c = by_exit c.from_residual-in_err-linear.result _ _ c.from_residual-in_err-linear.ensures.1 (c.in_err-linear.ensures {u = tt}).spill

pub returns-clause-duals : goal.returns-clause-duals
returns-clause-duals g c = record {
  constants = (c.in_ok-constant.ensures {u = tt}).size;
  constant = (c.in_ok-constant.ensures {u = tt}).each;
  linears = (c.in_ok-linear.ensures {u = tt}).size;
  linear = (c.in_ok-linear.ensures {u = tt}).each;
}
