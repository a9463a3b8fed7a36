-- The line has the numbers of the station, and the row that enters on it enters at the station.
use Rattle.std.proofs.Common.{rules, to_z, of_z, ◌≡◌}
use mir.Syntax.{w128}
use Rattle.whole_steps.proofs.Lines.{full_line}
use Rattle.whole_steps.proofs.Passed.{first_is, entering_is, slope_there, entering_there}
use Rattle.whole_steps.proofs.solving.entering.Goals as goal

pub entering_row-requires-clause-descent : goal.entering_row-requires-clause-descent
entering_row-requires-clause-descent c =
    let leave = c.args.leave in
    record {
      full = full_line c.args.station.now leave.position leave.direction c.in_ok-numbers.numbers _ c.line.ensures (c.in_ok-numbers.ensures {u = tt}) c.as_slice.ensures c.as_slice-2.ensures;
      theta = c.requires.theta;
    }

pub entering_row-requires-clause-start : goal.entering_row-requires-clause-start
entering_row-requires-clause-start c =
    let leave = c.args.leave in
    let plain : to_z w128 (of_z w128 leave.slope) ≡ leave.slope = search rules in
    rw (plain) (first_is _ _ (slope_there c.args.station.now c.args.theta leave.slope leave.position leave.direction c.line.result c.line.ensures c.requires.leave.slope))

pub returns : goal.returns
returns c =
    let leave = c.args.leave in
    entering_there c.args.station.now c.args.theta leave.position leave.direction c.line.result c.line.ensures c.in_ok-row.row (entering_is _ c.in_ok-row.row (c.in_ok-row.ensures {u = tt}))
