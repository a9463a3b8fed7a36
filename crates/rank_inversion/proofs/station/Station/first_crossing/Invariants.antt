use Rattle.tableau_model.specs.Crossings.{IsFirstOf}
use Rattle.rank_inversion.specs.Courses.{Moves, crossing_at}
use Rattle.rank_inversion.specs.Stations.{sample_at, rows_at, entries_at}
use Rattle.rank_inversion.proofs.station.Station.first_crossing.Given as goal

abbrev pub invariant-loop-position : goal.invariant-loop-position
invariant-loop-position g l =
    let value = g.F.Exact.value in
    let a = entries_at value l.self in
    IsFirstOf value (Moves value l.self.course a) (crossing_at value (sample_at value l.self) (rows_at value l.self) a l.self.course) l.position l.least
