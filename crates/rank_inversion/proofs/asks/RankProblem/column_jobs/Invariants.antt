use Rattle.std.proofs.Common.{◌≡◌, map, take}
use Rattle.rank_inversion.specs.AllIntervals.{asked_over}
use Rattle.rank_inversion.proofs.asks.RankProblem.column_jobs.Given as goal

abbrev pub invariant-loop-at : goal.invariant-loop-at
invariant-loop-at g l = l.jobs.items ≡ map (λ asked. (l.self, asked)) (asked_over l.self.crit l.self.problem.now.columns (map (λ at. at.tau) (take l.at-index l.starts)))
