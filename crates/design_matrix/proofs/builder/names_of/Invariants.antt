use Rattle.std.proofs.Common.{◌≡◌, map, take}
use Rattle.design_matrix.specs.Parts.{column_name}
use Rattle.design_matrix.specs.Views.{columns_seen}
use Rattle.design_matrix.proofs.builder.names_of.Given as goal

abbrev pub invariant-loop-parts : goal.invariant-loop-parts
invariant-loop-parts l = l.names.items ≡ map column_name (columns_seen (take l.parts-index l.columns))
