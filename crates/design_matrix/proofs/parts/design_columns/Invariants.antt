use Rattle.std.proofs.Common.{◌≡◌, ◌++◌, [], take}
use Rattle.std.specs.List.{flat_map}
use Rattle.design_matrix.specs.Parts.{columns_in, term_columns}
use Rattle.design_matrix.specs.Views.{columns_seen, terms_seen}
use Rattle.design_matrix.proofs.Lengths.{AreShort}
use Rattle.design_matrix.proofs.parts.design_columns.Given as goal

abbrev pub invariant-loop-term : goal.invariant-loop-term
invariant-loop-term l = record {
  made : columns_seen l.columns.items ≡ columns_in l.fn.intercept [] ++ flat_map term_columns (terms_seen (take l.term-index l.terms));
  short : AreShort l.columns.items;
}
