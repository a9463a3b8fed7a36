-- The parts together.
use Rattle.whole_solution.proofs.solution.WholeBasis+i64+WholeInverse.standing.Goals as goal

pub returns-in-Ok : goal.returns-in-Ok
returns-in-Ok c =
    let sided = c.requires.sided in
    let duals = c.in-Ok.ensures {u = tt} in
    record {
      columns = sided.columns;
      coef = sided.coef;
      all_sides = sided.all_sides;
      sides = sided.sides;
      near = sided.near;
      far = sided.far;
      weights = sided.weights;
      residuals = sided.residuals;
      constants = duals.constants;
      constant = duals.constant;
      linears = duals.linears;
      linear = duals.linear;
    }
