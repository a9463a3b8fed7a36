use Rattle.std.proofs.Common.{◌++◌, ◌∷◌, [], map, take, ap, sym, ◌∙◌}
use Rattle.rank_inversion.proofs.Listed.{map_more}
use Rattle.rank_inversion.proofs.asks.RankProblem.start_jobs.Goals as goal

pub loop-tau-preserved : goal.loop-tau-preserved
loop-tau-preserved g c =
    let self = c.args.self.now in
    let at = c.loop-tau in
    c.in-Ok.ensures.items ∙ ap (λ l. l ++ c.start_job.result ∷ []) at.invariant ∙ ap (λ z. map (λ tau. (self, tau)) (take at.tau-index c.args.taus.now) ++ z ∷ []) c.start_job.ensures
    ∙ sym (map_more (λ tau. (self, tau)) c.args.taus.now at.tau-index c.tau-item.result c.loop-tau-test.true c.tau-item.is)
