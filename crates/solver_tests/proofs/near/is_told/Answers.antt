-- The station is the basis that is kept.
use Rattle.whole_tableau.proofs.Stations.{is_station}
use Rattle.solver_tests.proofs.near.is_told.Goals as goal

pub first_crossing-requires-clause-station : goal.first_crossing-requires-clause-station
first_crossing-requires-clause-station g c =
    let held = c.held-held.ensures in
    (is_station g.F.Exact.value c.args.body.now held.kept _ held.rows held.at held.inverse held.basis c.solution-solution.ensures.solution).station

pub first_near-requires-clause-station : goal.first_near-requires-clause-station
first_near-requires-clause-station g c =
    let held = c.held-held.ensures in
    (is_station g.F.Exact.value c.args.body.now held.kept _ held.rows held.at held.inverse held.basis c.solution-solution.ensures.solution).station
