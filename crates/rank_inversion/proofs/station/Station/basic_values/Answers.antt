use Rattle.std.proofs.Common.{◌≡◌, length, map, ap, ◌∙◌}
use Rattle.std.proofs.lemmas.List.{length-map}
use Rattle.rank_inversion.proofs.StationLaws.{value_of_row}
use Rattle.rank_inversion.proofs.station.Station.basic_values.Goals as goal

pub by_row-requires-clause-members : goal.by_row-requires-clause-members
by_row-requires-clause-members g c κs within = rw (c.as_slice-rows.ensures, c.basis.ensures.rows) c.requires.members

pub returns-clause-size : goal.returns-clause-size
returns-clause-size g c =
    ap length ((c.in_ok-basic.ensures {u = tt}) ∙ ap (map g.F.Exact.value) c.as_slice-2.ensures) ∙ length-map c.in_ok-ordered.ordered g.F.Exact.value ∙ (c.in_ok-ordered.ensures {u = tt}).size

pub returns-clause-each : goal.returns-clause-each
returns-clause-each g c =
    let value = g.F.Exact.value in
    let picked = rw (c.as_slice-rows.ensures, c.basis.ensures.rows, c.as_slice.ensures) at (c.in_ok-ordered.ensures {u = tt}) in
    let wide : c.in_ok-basic.basic ≡ map value c.in_ok-ordered.ordered = (c.in_ok-basic.ensures {u = tt}) ∙ ap (map value) c.as_slice-2.ensures in
    λ k lk.
    value_of_row value c.args.self.now c.requires.station c.args.weight c.in_ok-values.values (c.in_ok-values.ensures {u = tt}).values c.args.sorted.now c.in_ok-ordered.ordered c.in_ok-basic.basic wide k (picked.each k lk)
