use Rattle.rankscores.proofs.Wilcoxons.{AreFirst}
use Rattle.rankscores.proofs.integral.wilcoxon.Given as goal

abbrev pub invariant-loop-row : goal.invariant-loop-row
invariant-loop-row g l = AreFirst g.F.Exact.value l.problem l.process.segments l.row l.scores
