-- Stated. The operations of the costs of a path problem, and why there is none.
use Rattle.std.specs.Prelude.{ℕ, ◌+◌, ◌-◌, ◌<◌, ◌≤◌, List, [], ◌∷◌, ◌++◌, length, pos, ⊤}
use Rattle.rational_laws.specs.Rational.{ℚ, ◌-ℚ◌, whole}
use Rattle.frac_core.specs.declared.frac128.Frac128.{Frac128}
use Rattle.frac_core.specs.Limits.{most_rows}
use Rattle.frac_core.specs.Values.{exact}
use Rattle.loss_model.specs.declared.problem.Problem.{Problem}
use Rattle.loss_model.specs.declared.problem.Row.{Row}
use Rattle.loss_model.specs.declared.spill.Quantity.TheVariants.{PathCost}
use Rattle.loss_model.specs.Spill.{multiplication, subtraction, site_of}
use Rattle.tv_penalty.specs.Operations.{SitedOperation, OverflowsFirst, numbered_from}
use Rattle.lambda_path.specs.declared.fault.PathFault.{PathFault}
use Rattle.lambda_path.specs.declared.fault.PathFault.TheVariants.{OutOfMemory, TooManyRows, Overflow}

-- of the costs of row i: the weight times tau above the fit; and below it 1 - tau, and then the weight times that
abbrev pub cost_operations : ℕ → ℚ → ℚ → List SitedOperation
cost_operations i weight tau =
    numbered_from (site_of PathCost i 0 0) 1 (multiplication weight tau ∷ [])
    ++ numbered_from (site_of PathCost i 1 0) 1 (subtraction (whole (pos 1)) tau ∷ multiplication weight (whole (pos 1) -ℚ tau) ∷ [])

-- of the rows from number i on
abbrev pub operations_from : ℕ → ℚ → List (Row Frac128) → List SitedOperation
operations_from i tau [] = []
operations_from i tau (r ∷ rows) = cost_operations i (exact r.up1) tau ++ operations_from (i + 1) tau rows

-- of all data rows
abbrev pub path_operations : Problem Frac128 → ℚ → List SitedOperation
path_operations p tau = operations_from 0 tau p.rows

-- rows of both kinds
abbrev pub row_count : Problem Frac128 → ℕ → ℕ
row_count p first = length p.rows + (p.columns - first)

-- why there is no path problem. The rows are counted first; want of memory has no cause here
abbrev pub HasCause : Problem Frac128 → ℕ → ℚ → PathFault → Type 0
HasCause p first tau OutOfMemory = ⊤
HasCause p first tau TooManyRows = most_rows < row_count p first
HasCause p first tau (Overflow spill) = (row_count p first ≤ most_rows) × OverflowsFirst (path_operations p tau) spill
