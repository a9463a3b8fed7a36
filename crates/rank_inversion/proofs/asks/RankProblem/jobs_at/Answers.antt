use Rattle.std.proofs.Common.{◌≡◌, ◌++◌, ◌∷◌, [], map, ap, sym, ◌∙◌, arith}
use Rattle.std.proofs.lemmas.List.{map-append}
use Rattle.rank_inversion.specs.AllIntervals.{asked_at}
use Rattle.rank_inversion.proofs.Listed.{column_more}
use Rattle.rank_inversion.proofs.asks.RankProblem.jobs_at.Goals as goal

pub loop-column-preserved : goal.loop-column-preserved
loop-column-preserved g c =
    let self = c.args.self.now in
    let tau = c.args.columns.now.at.now.tau in
    let k = c.loop-column.column in
    c.in-Ok.ensures.items ∙ ap (λ l. l ++ c.column_job.result ∷ []) c.loop-column.invariant
    ∙ ap (λ z. map (λ asked. (self, asked)) (asked_at self.crit k tau) ++ z ∷ []) c.column_job.ensures
    ∙ sym (map-append (λ asked. (self, asked)) (asked_at self.crit k tau) (record { column = k; tau = tau; crit = self.crit } ∷ []))
    ∙ sym (ap (map (λ asked. (self, asked))) (column_more self.crit tau k))

pub returns : goal.returns
returns g c =
    let self = c.args.self.now in
    let end : c.loop-column.column ≡ self.problem.now.columns = omega (arith, c.loop-column-test.false, c.loop-column.auto.column-end) in
    c.loop-column.invariant ∙ ap (λ n. map (λ asked. (self, asked)) (asked_at self.crit n c.args.columns.now.at.now.tau)) end
