use Rattle.rankscores.proofs.Rankscores.{AreScored}
use Rattle.rankscores.proofs.segment.scores.Given as goal

abbrev pub invariant-loop-place : goal.invariant-loop-place
invariant-loop-place g l = AreScored g.F.Exact.value l.problem l.data_rows l.segment l.place l.pairs
