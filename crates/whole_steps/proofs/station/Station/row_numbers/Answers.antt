-- Both lists have the numbers of the station.
use Rattle.whole_steps.proofs.Coordinates.{coordinates_by}
use Rattle.whole_steps.specs.Stations.{over_of}
use Rattle.whole_steps.proofs.station.Station.row_numbers.Goals as goal

pub returns : goal.returns
returns c =
    let s = c.args.self.now in
    let b = s.basis.now in
    let d = over_of s in
    let left = c.in_ok-residuals.ensures {u = tt} in
    let made = c.in_ok-coords.ensures in
    record {
      size = left.size;
      residuals = left.each;
      all_coords = made.size;
      coords = λ i li. coordinates_by b.inverse.now c.requires.station.held.shape b.rows.now i c.args.position c.numerators-column.result.now _ c.requires.position c.numerators-column.ensures (made.each d i li);
    }
