use Rattle.std.proofs.Common.{◌≡◌, map, take}
use Rattle.design_matrix.specs.CodedVariable.{coded_variable}
use Rattle.design_matrix.specs.Lists.{each}
use Rattle.design_matrix.specs.Views.{coded_seen}
use Rattle.design_matrix.proofs.coded.Coder.term.Given as goal

abbrev pub invariant-loop-place : goal.invariant-loop-place
invariant-loop-place l =
    map coded_seen l.coded.items
    ≡ each (coded_variable l.self.frame.now l.self.model.now l.self.contrasts l.self.records.now l.number l.variables) 0 (take l.place l.variables)
