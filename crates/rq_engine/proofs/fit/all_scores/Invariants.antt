use Rattle.std.proofs.Common.{take}
use Rattle.std.specs.List.{AllZip}
use Rattle.rankscores.specs.Scores.{IsScored}
use Rattle.rq_engine.proofs.fit.all_scores.Given as goal

abbrev pub invariant-loop-number : goal.invariant-loop-number
invariant-loop-number g l = AllZip (IsScored g.F.Exact.value l.problem l.data_rows) (take l.number l.segments) l.all
