use Rattle.std.proofs.Common.{◌≡◌, None, map, take}
use Rattle.design_matrix.specs.Faults.{named_fault}
use Rattle.design_matrix.specs.Lists.{first_some}
use Rattle.design_matrix.proofs.used.check_arith_names.Given as goal

abbrev pub invariant-loop-arith : goal.invariant-loop-arith
invariant-loop-arith l = first_some (λ a. first_some (named_fault l.frame) a.names) (map (λ a. a.now) (take l.arith-index l.ariths)) ≡ None
