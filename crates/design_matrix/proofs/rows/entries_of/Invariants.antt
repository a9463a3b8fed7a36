use Rattle.std.proofs.Common.{◌≡◌, map, take}
use Rattle.frac_core.specs.Values.{exact}
use Rattle.design_matrix.specs.Designs.{RowFits}
use Rattle.design_matrix.specs.Parts.{factors}
use Rattle.design_matrix.specs.Products.{product}
use Rattle.design_matrix.specs.Views.{columns_seen}
use Rattle.design_matrix.proofs.rows.entries_of.Given as goal

abbrev pub invariant-loop-column : goal.invariant-loop-column
invariant-loop-column l = record {
  made : map exact l.entries.items ≡ map (λ c. product (factors c l.place)) (columns_seen (take l.column l.columns));
  fits : RowFits (columns_seen (take l.column l.columns)) l.place;
}
