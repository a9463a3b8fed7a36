use Rattle.std.proofs.Common.{inr}
use Rattle.basic_solution.proofs.Exits.{by_exit, short_map}
use Rattle.basic_solution.proofs.solution.basic_solution.Goals as goal

pub returns-in_err-primal-clause-spill : goal.returns-in_err-primal-clause-spill
returns-in_err-primal-clause-spill g c = by_exit c.from_residual.result _ _ c.from_residual.ensures.1 (c.in_err-primal.ensures {u = tt}).spill

pub returns-in-Err-clause-spill : goal.returns-in-Err-clause-spill
returns-in-Err-clause-spill g c = short_map _ _ c.in-Err.short (λ s h. inr (inr (inr h))) (c.in-Err.ensures {u = tt}).spill

pub returns-in-Ok-clause-solution : goal.returns-in-Ok-clause-solution
returns-in-Ok-clause-solution g c =
    let primal = (c.in_ok-primal.ensures {u = tt}).primal in
    let duals = (c.in-Ok.ensures {u = tt}).duals in
    record {
      columns = primal.columns;
      coef = primal.coef;
      rows = primal.rows;
      residuals = primal.residuals;
      all_sides = primal.all_sides;
      sides = primal.sides;
      constants = duals.constants;
      constant = duals.constant;
      linears = duals.linears;
      linear = duals.linear;
    }
