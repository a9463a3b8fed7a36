-- The dual values by position, as the rows have them.
use Rattle.std.proofs.Common.{length, map, sym, ap, ◌∙◌}
use Rattle.rational_laws.specs.Fraction.{rational}
use Rattle.tableau_model.proofs.Vertices.{duals_by_row}
use Rattle.whole_tableau.specs.Kept.{place}
use Rattle.whole_tableau.proofs.body.WholeTableau.row_duals.Goals as goal

pub by_row-requires-clause-same : goal.by_row-requires-clause-same
by_row-requires-clause-same g c κs within =
    ap length c.as_slice.ensures ∙ (c.in_ok-duals.ensures {u = tt}).size ∙ sym (ap length (c.as_slice-basis.ensures ∙ c.basis.ensures.rows) ∙ c.basis.ensures.place.size)

pub by_row-requires-clause-members : goal.by_row-requires-clause-members
by_row-requires-clause-members g c κs within = rw (c.as_slice-basis.ensures, c.basis.ensures.rows) c.requires.members

pub returns : goal.returns
returns g c =
    let value = g.F.Exact.value in
    let values = rw (c.as_slice-basis.ensures, c.basis.ensures.rows, c.as_slice.ensures) at (c.in_ok-values.ensures {u = tt}) in
    let made = (c.in_ok-made.ensures {u = tt}) ∙ ap (map value) c.as_slice-2.ensures in
    let wide = duals_by_row value (place value c.args.self.now) c.basis.ensures.place (rational (value c.args.theta)) c.in_ok-duals.duals (c.in_ok-duals.ensures {u = tt})
    c.args.rows.now c.in_ok-values.values c.in_ok-made.made made values.size values.each in
    record { size = wide.0; each = wide.1 }
