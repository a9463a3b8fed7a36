-- Law. What the laws of the levels and of the arithmetics say; each is a clause of a function.
use Rattle.std.specs.Prelude.{◌≡◌, ℕ, List, All, Any, Contains}
use Rattle.std.specs.declared.cmp.Ordering.{Ordering}
use Rattle.frac_core.specs.declared.frac128.Frac128.{Frac128}
use Rattle.data_frame.specs.Records.{Text}
use Rattle.frac_core.specs.declared.arith.Arith.{Arith}
use Rattle.frac_core.specs.Values.{exact}
use Rattle.formula_arith.specs.Evaluations.{operations_at, value_at}
use Rattle.design_matrix.specs.Cells.{Table}
use Rattle.design_matrix.specs.Computed.{CanEvaluate, arith_at, arith_operations, named_values}
use Rattle.design_matrix.specs.Levels.{text_order, number_order, levels_of, IsAscending}

-- the distinct cells in ascending order
pub record AreDistinctCells {K : Type 0} (order : K → K → Ordering) (IsSame : K → K → Type 0) (cells levels : List K) : Type 0 where
  -- each level comes before all later ones
  pub ascending : IsAscending order levels
  -- each level is one of the cells
  pub taken : All (Contains cells) levels
  -- each cell is the same as one of the levels
  pub complete : All (λ cell. Any (λ level. IsSame level cell) levels) cells

-- texts are the same where they are equal
abbrev pub LevelsOfTexts : Type 0
LevelsOfTexts = (cells : List Text) → AreDistinctCells text_order (λ level cell. level ≡ cell) cells (levels_of text_order cells)

-- numbers are the same where their values are equal
abbrev pub LevelsOfNumbers : Type 0
LevelsOfNumbers =
    (cells : List Frac128) → AreDistinctCells number_order (λ level cell. exact level ≡ exact cell) cells (levels_of number_order cells)

-- what an arithmetic comes to in a record, and its operations, are those of the arithmetic that it holds
abbrev pub ArithmeticsHaveTheirValues : Type 0
ArithmeticsHaveTheirValues =
    (table : Table) (a : Arith) (i : ℕ) (can : CanEvaluate a)
    → (arith_at table a i ≡ value_at can.tree (named_values table a i)) × (arith_operations table a i ≡ operations_at can.tree (named_values table a i))
