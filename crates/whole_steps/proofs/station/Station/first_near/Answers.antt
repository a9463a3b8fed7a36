-- The line has the coefficients and near rows of the station.
use Rattle.std.proofs.Common.{refl}
use Rattle.whole_steps.proofs.Lines.{near_line}
use Rattle.whole_steps.proofs.station.Station.first_near.Goals as goal

pub first_mover-requires : goal.first_mover-requires
first_mover-requires c = record { near = near_line c.args.self.now c.requires.station c.args.position c.args.direction _ c.line.ensures c.as_slice.ensures refl }
