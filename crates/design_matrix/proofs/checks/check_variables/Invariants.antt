use Rattle.std.proofs.Common.{◌≡◌, None, map, take}
use Rattle.design_matrix.specs.Faults.{level_fault}
use Rattle.design_matrix.specs.Lists.{first_some}
use Rattle.design_matrix.specs.Views.{coded_seen}
use Rattle.design_matrix.proofs.checks.check_variables.Given as goal

abbrev pub invariant-loop-variable : goal.invariant-loop-variable
invariant-loop-variable l = first_some level_fault (map coded_seen (take l.variable-index l.term)) ≡ None
