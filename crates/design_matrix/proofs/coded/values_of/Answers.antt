use Rattle.design_matrix.proofs.Ascending.{numbers_total, texts_total}
use Rattle.design_matrix.proofs.coded.values_of.Goals as goal

pub of-requires-clause-total : goal.of-requires-clause-total
of-requires-clause-total c = texts_total

pub of-requires-then-as_factor-clause-total : goal.of-requires-then-as_factor-clause-total
of-requires-then-as_factor-clause-total c = numbers_total
