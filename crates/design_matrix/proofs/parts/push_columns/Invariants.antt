use Rattle.std.proofs.Common.{◌≡◌, ◌++◌, map}
use Rattle.std.specs.List.{range_with_len}
use Rattle.design_matrix.specs.Parts.{chosen}
use Rattle.design_matrix.specs.Views.{coded_seen, columns_seen}
use Rattle.design_matrix.proofs.Lengths.{AreShort}
use Rattle.design_matrix.proofs.parts.push_columns.Given as goal

abbrev pub invariant-loop-number : goal.invariant-loop-number
invariant-loop-number l = record {
  made : columns_seen l.columns.items ≡ columns_seen l.fn.columns.items ++ map (chosen (map coded_seen l.term)) (range_with_len 0 l.number);
  short : AreShort l.columns.items;
}
