use Rattle.tableau_model.proofs.Soonest.{one_more}
use Rattle.rank_inversion.specs.Courses.{Moves, crossing_at}
use Rattle.rank_inversion.specs.Stations.{sample_at, rows_at, entries_at}
use Rattle.rank_inversion.proofs.station.Station.first_crossing.Goals as goal

pub loop-position-preserved : goal.loop-position-preserved
loop-position-preserved g c =
    let value = g.F.Exact.value in
    let v = c.args.self.now in
    one_more value (Moves value v.course (entries_at value v)) (crossing_at value (sample_at value v) (rows_at value v) (entries_at value v) v.course)
    c.loop-position.position c.loop-position.least c.in-Ok.next c.sooner-least.result c.loop-position.invariant (c.in-Ok.ensures {u = tt}).exact c.sooner-least.ensures
