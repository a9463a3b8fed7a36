use Rattle.walk_model.specs.SlopeLaws.{crossing_of}
use Rattle.fraction_tableau.specs.Views.{sample_at, rows_at, entries_at}
use Rattle.tableau_model.specs.Crossings.{passes_at, IsFirstOf}
use Rattle.fraction_tableau.proofs.view.BasisView.first_crossing.Given as goal

abbrev pub invariant-loop-position : goal.invariant-loop-position
invariant-loop-position g l =
    let p = sample_at g.F.Exact.value l.self in
    let at = rows_at g.F.Exact.value l.self in
    let a = entries_at g.F.Exact.value l.self in
    IsFirstOf g.F.Exact.value (passes_at p at a) (crossing_of p at a) l.position l.least
