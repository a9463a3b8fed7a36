use Rattle.design_matrix.proofs.Ascending.{of_texts, of_numbers}
use Rattle.design_matrix.proofs.laws.distinct_levels.Goals as goal

pub returns : goal.returns
returns c = record { texts = of_texts; numbers = of_numbers }
