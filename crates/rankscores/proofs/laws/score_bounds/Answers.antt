use Rattle.rankscores.proofs.WilcoxonLaws.{scores_bounded, wilcoxon_bounded}
use Rattle.rankscores.proofs.laws.score_bounds.Goals as goal

pub returns : goal.returns
returns c = record { along = scores_bounded c.rankscore_bounds.ensures; wilcoxon = wilcoxon_bounded c.rankscore_bounds.ensures }
