use Rattle.std.proofs.Common.{map, ap, ◌∙◌}
use Rattle.fraction_tableau.specs.Kept.{place}
use Rattle.fraction_tableau.proofs.Places.{kept_is_place}
use Rattle.tableau_model.proofs.Vertices.{distinct_rows}
use Rattle.rank_inversion.proofs.StationLaws.{vertex_is}
use Rattle.rank_inversion.proofs.station.Station.vertex.Goals as goal

pub ascending-requires : goal.ascending-requires
ascending-requires g c =
    let value = g.F.Exact.value in
    let k = c.args.self.now.tableau.now in
    rw (c.as_slice.ensures, c.basis.ensures.rows) (record { distinct = distinct_rows value (place value k) (kept_is_place value k c.basis.ensures.kept) })

pub returns : goal.returns
returns g c =
    let v = c.args.self.now in
    let ordered = rw (c.as_slice.ensures, c.basis.ensures.rows) at (c.in_ok-rows.ensures {u = tt}) in
    let sides_are = (c.in_ok-sides.ensures {u = tt}) ∙ c.as_slice-2.ensures in
    let coef_are = (c.in_ok-coef.ensures {u = tt}) ∙ ap (map g.F.Exact.value) c.as_slice-3.ensures in
    rw (sides_are, coef_are) (vertex_is g.F.Exact.value v c.requires.station c.in_ok-rows.rows ordered.increasing ordered.size ordered.same)
