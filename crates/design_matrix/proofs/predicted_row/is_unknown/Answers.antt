use Rattle.design_matrix.proofs.Ascending.{numbers_total, texts_total}
use Rattle.design_matrix.proofs.predicted_row.is_unknown.Goals as goal

pub is_level-requires : goal.is_level-requires
is_level-requires c = texts_total

pub is_level-requires-in-Numbers : goal.is_level-requires-in-Numbers
is_level-requires-in-Numbers c = numbers_total
