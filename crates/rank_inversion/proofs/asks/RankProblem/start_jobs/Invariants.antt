use Rattle.std.proofs.Common.{◌≡◌, map, take}
use Rattle.rank_inversion.proofs.asks.RankProblem.start_jobs.Given as goal

abbrev pub invariant-loop-tau : goal.invariant-loop-tau
invariant-loop-tau g l = l.jobs.items ≡ map (λ tau. (l.self, tau)) (take l.tau-index l.taus)
