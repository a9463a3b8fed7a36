use Rattle.std.proofs.Common.{◌≡◌, ◌++◌, flat_map, map, option_to_list, take}
use Rattle.design_matrix.proofs.computed.push_term.Given as goal

abbrev pub invariant-loop-variable : goal.invariant-loop-variable
invariant-loop-variable l =
    map (λ a. a.now) l.ariths.items ≡ map (λ a. a.now) l.fn.ariths.items ++ flat_map (λ v. option_to_list v.arith) (take l.variable-index l.variables)
