use Rattle.std.proofs.Common.{◌≡◌, ◌++◌, map, take}
use Rattle.std.specs.List.{flat_map}
use Rattle.design_matrix.specs.Cells.{term_names}
use Rattle.design_matrix.proofs.used.push_predictors.Given as goal

abbrev pub invariant-loop-term : goal.invariant-loop-term
invariant-loop-term l = map (λ n. n.now) l.names.items ≡ map (λ n. n.now) l.fn.names.items ++ flat_map term_names (take l.term-index l.terms)
