use Rattle.nested_test.proofs.Statistics.{statistic_is_square}
use Rattle.nested_test.proofs.laws.statistic_is_square.Goals as goal

pub returns : goal.returns
returns c = statistic_is_square
