use Rattle.std.proofs.Common.{◌≡◌, ◌++◌, map, take}
use Rattle.std.specs.List.{flat_map}
use Rattle.design_matrix.specs.Cells.{names_by}
use Rattle.design_matrix.proofs.used.push_variables.Given as goal

abbrev pub invariant-loop-variable : goal.invariant-loop-variable
invariant-loop-variable l =
    map (λ n. n.now) l.names.items ≡ map (λ n. n.now) l.fn.names.items ++ flat_map (λ v. names_by v.name v.arith) (take l.variable-index l.variables)
