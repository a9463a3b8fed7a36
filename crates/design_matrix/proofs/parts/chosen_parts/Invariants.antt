use Rattle.std.proofs.Common.{◌≡◌, ◌<◌, ◌^◌, ◌++◌, List, map, take}
use Rattle.design_matrix.specs.CodedVariable.{CodedVariable}
use Rattle.design_matrix.specs.Parts.{chosen}
use Rattle.design_matrix.specs.Views.{coded_seen, part_seen}
use Rattle.design_matrix.proofs.parts.chosen_parts.Given as goal

-- Whatever variables follow, the choice goes on from here.
abbrev pub invariant-loop-variable : goal.invariant-loop-variable
invariant-loop-variable l = record {
  small : l.rest < 2 ^ 32;
  goes_on : (more : List CodedVariable) → map part_seen l.parts.items ++ chosen more l.rest ≡ chosen (map coded_seen (take l.variable-index l.term) ++ more) l.number;
}
