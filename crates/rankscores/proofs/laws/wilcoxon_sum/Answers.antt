use Rattle.rankscores.proofs.WilcoxonLaws.{is_sum}
use Rattle.rankscores.proofs.laws.wilcoxon_sum.Goals as goal

pub returns : goal.returns
returns c = is_sum
