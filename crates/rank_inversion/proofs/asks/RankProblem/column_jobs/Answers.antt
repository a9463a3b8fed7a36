use Rattle.std.proofs.Common.{◌++◌, map, take, ap, sym, ◌∙◌}
use Rattle.std.proofs.lemmas.List.{map-append, take_all}
use Rattle.rank_inversion.specs.AllIntervals.{asked_at, asked_over}
use Rattle.rank_inversion.proofs.Listed.{quantile_more}
use Rattle.rank_inversion.proofs.asks.RankProblem.column_jobs.Goals as goal

pub loop-at-preserved : goal.loop-at-preserved
loop-at-preserved g c =
    let self = c.args.self.now in
    let n = self.problem.now.columns in
    let starts = c.args.starts.now in
    let k = c.loop-at.at-index in
    let at = c.at-item.result in
    let before = asked_over self.crit n (map (λ s. s.tau) (take k starts)) in
    c.in-Ok.ensures.items ∙ ap (λ l. l ++ c.in_ok-more.more.items) c.loop-at.invariant
    ∙ ap (λ l. map (λ asked. (self, asked)) before ++ l) c.in_ok-more.ensures
    ∙ sym (map-append (λ asked. (self, asked)) before (asked_at self.crit n at.tau))
    ∙ sym (ap (map (λ asked. (self, asked))) (quantile_more self.crit n (λ s. s.tau) starts k at c.loop-at-test.true c.at-item.is))

pub returns : goal.returns
returns g c =
    let self = c.args.self.now in
    c.loop-at.invariant ∙ ap (λ starts. map (λ asked. (self, asked)) (asked_over self.crit self.problem.now.columns (map (λ at. at.tau) starts))) (take_all _ _ c.loop-at-test.false)
