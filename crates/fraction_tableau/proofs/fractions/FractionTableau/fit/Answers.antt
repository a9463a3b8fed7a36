use Rattle.std.proofs.Common.{length, map, slice_index, refl, sym, ap, subst, ◌∙◌}
use Rattle.rational_laws.specs.Fraction.{rational}
use Rattle.rational_laws.proofs.Lists.{contains_item}
use Rattle.fraction_tableau.specs.Kept.{place}
use Rattle.fraction_tableau.proofs.Places.{kept_is_place}
use Rattle.tableau_model.specs.Standing.{AreCoefficients}
use Rattle.tableau_model.proofs.Vertices.{distinct_rows, vertex_by, coefficients_wide, duals_by_row, basic_duals}
use Rattle.fraction_tableau.proofs.fractions.FractionTableau.fit.Goals as goal

pub ascending-requires : goal.ascending-requires
ascending-requires g c =
    let value = g.F.Exact.value in
    let k = c.args.self.now in
    rw (c.as_slice-rows.ensures, c.basis.ensures.rows) (record { distinct = distinct_rows value (place value k) (kept_is_place value k c.basis.ensures.kept) })

pub by_row-requires-clause-same : goal.by_row-requires-clause-same
by_row-requires-clause-same g c κs within =
    let size = c.basis.ensures.kept.inverse.size in
    ap length c.as_slice-2.ensures ∙ c.requires.duals.size ∙ sym (ap length (c.as_slice-rows.ensures ∙ c.basis.ensures.rows) ∙ size)

pub by_row-requires-clause-members : goal.by_row-requires-clause-members
by_row-requires-clause-members g c κs within =
    rw c.as_slice.ensures (λ k lk. ((c.in_ok-sorted.ensures {u = tt}).same (slice_index c.in_ok-sorted.sorted k)).0 (contains_item c.in_ok-sorted.sorted k lk))

pub returns : goal.returns
returns g c =
    let value = g.F.Exact.value in
    let k = c.args.self.now in
    let h = place value k in
    let theta = rational (value c.args.theta) in
    let is_place = kept_is_place value k c.basis.ensures.kept in
    let sorted = c.in_ok-sorted.sorted in
    let stands = c.requires in
    let ordered = rw (c.as_slice-rows.ensures, c.basis.ensures.rows) at (c.in_ok-sorted.ensures {u = tt}) in
    let values = rw (c.as_slice-rows.ensures, c.basis.ensures.rows, c.as_slice-2.ensures, c.as_slice.ensures) at (c.in_ok-values.ensures {u = tt}) in
    let made = (c.in_ok-basic.ensures {u = tt}) ∙ ap (map value) c.as_slice-3.ensures in
    let coef_made = (c.in_ok-coef.ensures {u = tt}) ∙ ap (map value) c.as_slice-4.ensures in
    let wide = duals_by_row value h is_place theta c.args.standing.duals stands.duals sorted c.in_ok-values.values c.in_ok-basic.basic made values.size values.each in
    let coefs = subst (AreCoefficients value h (λ x. x)) (sym coef_made) (coefficients_wide value h c.args.standing.coef stands.coef) in
    record {
      vertex = vertex_by value h is_place c.in_ok-coef.coef c.args.standing.sides coefs stands.sides sorted ordered.increasing ordered.size ordered.same;
      basic = basic_duals value h sorted is_place ordered.size theta _ c.in_ok-basic.basic refl wide.0 wide.1;
    }
