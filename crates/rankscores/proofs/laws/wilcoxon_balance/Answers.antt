use Rattle.rankscores.proofs.WilcoxonLaws.{balanced, sums_to_zero}
use Rattle.rankscores.proofs.laws.wilcoxon_balance.Goals as goal

pub returns : goal.returns
returns c = record { orthogonal = balanced; zero = sums_to_zero }
