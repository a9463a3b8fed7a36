use Rattle.std.proofs.Common.{subst}
use Rattle.rational_laws.specs.Fraction.{rational}
use Rattle.rank_walk_model.specs.Crossings.{IsMoving}
use Rattle.rank_steps.specs.Ways.{way_of}
use Rattle.rank_inversion.proofs.StationLaws.{crossing_none, crossing_some}
use Rattle.rank_inversion.proofs.station.Station.crossing.Goals as goal

pub returns-in-None-clause-exact : goal.returns-in-None-clause-exact
returns-in-None-clause-exact g c =
    let value = g.F.Exact.value in
    let v = c.args.self.now in
    crossing_none value v c.args.position (rational (value c.entry-entry.result)) (rw c.inverse.ensures.inverse at c.entry-entry.ensures) (rw c.in-None.is at c.direction_by.ensures)

pub returns-in_ok-theta-in-Some-clause-exact : goal.returns-in_ok-theta-in-Some-clause-exact
returns-in_ok-theta-in-Some-clause-exact g c =
    let value = g.F.Exact.value in
    let v = c.args.self.now in
    let entry_is = rw c.inverse.ensures.inverse at c.entry-entry.ensures in
    let moving = rw c.in-Some.is at c.direction_by.ensures in
    crossing_some value v c.args.position c.in-Some.direction c.in_ok-theta-in-Some.theta
    (subst (λ z. IsMoving (way_of v.course.way) c.in-Some.direction z) entry_is moving)
    (c.in_ok-theta-in-Some.ensures {u = tt}).exact
