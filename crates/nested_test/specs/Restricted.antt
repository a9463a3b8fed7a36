-- Stated. A problem without some of its columns.
use Rattle.std.specs.Prelude.{ℕ, ◌+◌, ◌-◌, ◌<◌, ◌==◌, Bool, List, [], ◌∷◌, All, length, map, if◌then◌else◌}
use Rattle.std.specs.List.{list_any}
use Rattle.std.specs.List.Sorted.{IsStrictlyIncreasing}
use Rattle.loss_model.specs.declared.problem.Problem.{Problem}
use Rattle.loss_model.specs.declared.problem.Row.{Row}

-- different columns of a problem, ascending
pub record AreTested (columns : ℕ) (tested : List ℕ) : Type 0 where
  pub ascending : IsStrictlyIncreasing tested
  pub within : All (λ k. k < columns) tested

-- column k is one of them
abbrev pub is_tested : List ℕ → ℕ → Bool
is_tested tested k = list_any (λ c. c == k) tested

-- the entries from column k on, but for those of tested columns
abbrev pub without : {F : Type 0} → List ℕ → ℕ → List F → List F
without tested k [] = []
without tested k (x ∷ xs) = if is_tested tested k then without tested (k + 1) xs else x ∷ without tested (k + 1) xs

-- a row without them
abbrev pub restricted_row : {F : Type 0} → List ℕ → Row F → Row F
restricted_row tested r = record { x = without tested 0 r.x; y = r.y; up0 = r.up0; up1 = r.up1; down0 = r.down0; down1 = r.down1 }

-- a problem without them
abbrev pub restricted_problem : {F : Type 0} → List ℕ → Problem F → Problem F
restricted_problem tested p = record { columns = p.columns - length tested; rows = map (restricted_row tested) p.rows }
