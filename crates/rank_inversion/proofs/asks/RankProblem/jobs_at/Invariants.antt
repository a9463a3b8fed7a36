use Rattle.std.proofs.Common.{◌≡◌, map}
use Rattle.rank_inversion.specs.AllIntervals.{asked_at}
use Rattle.rank_inversion.proofs.asks.RankProblem.jobs_at.Given as goal

abbrev pub invariant-loop-column : goal.invariant-loop-column
invariant-loop-column g l = l.jobs.items ≡ map (λ asked. (l.self, asked)) (asked_at l.self.crit l.column l.columns.at.now.tau)
