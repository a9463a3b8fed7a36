use Rattle.std.proofs.Common.{◌≡◌, None, take}
use Rattle.design_matrix.specs.Faults.{named_fault}
use Rattle.design_matrix.specs.Lists.{first_some}
use Rattle.design_matrix.proofs.used.check_names.Given as goal

abbrev pub invariant-loop-name : goal.invariant-loop-name
invariant-loop-name l = first_some (named_fault l.frame) (take l.name-index l.names) ≡ None
