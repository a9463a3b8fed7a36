-- Stated. What whoever goes on with an input knows of its rows.
use Rattle.std.specs.Prelude.{◌≡◌, ◌≤◌, ◌<◌, ℕ, length}
use Rattle.frac_core.specs.Values.{value}
use Rattle.loss_model.specs.Dual.{IsDataRow}
use Rattle.loss_model.specs.Problem.{sample, IsWellShaped}
use Rattle.rq_program.specs.Costs.{IsPenaltyRow}
use Rattle.rq_program.specs.Faults.{row_count}
use Rattle.rq_program.specs.Programs.{AreTogether}
use Rattle.rq_input.specs.declared.input.Input.{Input}

-- the design and what the smooths add go together, and the problem has a data row for each row of the design, and then a
-- penalty row for each of those that the smooths add
pub record HasRows (input : Input) : Type 0 where
  pub together : AreTogether input.design input.smoothing
  pub shaped : IsWellShaped input.problem
  pub size : length input.problem.rows ≡ row_count input.design input.smoothing
  pub are_data : (i : ℕ) → i < length input.design.rows → IsDataRow (sample value input.problem) i
  pub are_penalties : (i : ℕ) → length input.design.rows ≤ i → i < length input.problem.rows → IsPenaltyRow (sample value input.problem) i
