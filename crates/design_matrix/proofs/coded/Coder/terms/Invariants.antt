use Rattle.std.proofs.Common.{◌≡◌, map, take}
use Rattle.design_matrix.specs.CodedVariable.{coded_term}
use Rattle.design_matrix.specs.Lists.{each}
use Rattle.design_matrix.specs.Views.{coded_seen}
use Rattle.design_matrix.proofs.Lengths.{AreShort}
use Rattle.design_matrix.proofs.coded.Coder.terms.Given as goal

abbrev pub invariant-loop-number : goal.invariant-loop-number
invariant-loop-number l = record {
  made : map (λ vs. map coded_seen vs.items) l.coded.items
      ≡ each (coded_term l.self.frame.now l.self.model.now l.self.contrasts l.self.records.now) 0 (take l.number l.terms);
  short : AreShort l.coded.items;
}
