use Rattle.std.proofs.Common.{◌≡◌, arith, subst}
use Rattle.walk_model.specs.SlopeLaws.{crossing_of}
use Rattle.fraction_tableau.specs.Views.{sample_at, rows_at, entries_at}
use Rattle.tableau_model.specs.Crossings.{passes_at, IsFirstOf}
use Rattle.tableau_model.proofs.Soonest.{one_more}
use Rattle.fraction_tableau.proofs.view.BasisView.first_crossing.Goals as goal

pub loop-position-preserved : goal.loop-position-preserved
loop-position-preserved g c =
    let value = g.F.Exact.value in
    let view = c.args.self.now in
    one_more value (passes_at (sample_at value view) (rows_at value view) (entries_at value view)) (crossing_of (sample_at value view) (rows_at value view) (entries_at value view))
    c.loop-position.position c.loop-position.least c.in-Ok.next c.sooner-least.result c.loop-position.invariant (c.in-Ok.ensures {u = tt}).exact c.sooner-least.ensures

pub returns-clause-exact : goal.returns-clause-exact
returns-clause-exact g c =
    let value = g.F.Exact.value in
    let view = c.args.self.now in
    let end : c.loop-position.position ≡ view.tableau.now.problem.columns = omega (arith, c.loop-position-test.false, c.loop-position.auto.position-end) in
    subst (λ n. IsFirstOf value (passes_at (sample_at value view) (rows_at value view) (entries_at value view)) (crossing_of (sample_at value view) (rows_at value view) (entries_at value view)) n c.loop-position.least) end
    c.loop-position.invariant
