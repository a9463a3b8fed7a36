use Rattle.std.proofs.Common.{◌≡◌, map, min, take}
use Rattle.design_matrix.specs.Parts.{count}
use Rattle.design_matrix.specs.Views.{coded_seen}
use Rattle.design_matrix.proofs.parts.count_of.Given as goal

abbrev pub invariant-loop-variable : goal.invariant-loop-variable
invariant-loop-variable l = l.columns ≡ min (count (map coded_seen (take l.variable-index l.term))) 129
