use Rattle.std.proofs.Common.{slice_index, ap, ◌∙◌}
use Rattle.std.proofs.lemmas.Result.{err_from_is_err_and}
use Rattle.fraction_tableau.proofs.Refusals.{short_weaker}
use Rattle.rational_laws.specs.Fraction.{rational}
use Rattle.rational_laws.proofs.Lists.{contains_item}
use Rattle.loss_model.specs.Spill.{AtSome}
use Rattle.rank_inversion.specs.Nexts.{IsSpillHere, IsWeighingSpill}
use Rattle.rank_inversion.proofs.StationLaws.{coef_read, break_spill, entered_spill, values_there, values_entered, finite_end_is}
use Rattle.rank_inversion.proofs.station.Station.finite_end.Goals as goal

pub basic_values-requires-clause-members : goal.basic_values-requires-clause-members
basic_values-requires-clause-members g c κs within =
    let vertex = c.in_ok-vertex.vertex in
    rw c.as_slice.ensures (λ k lk. ((c.in_ok-vertex.ensures {u = tt}).rows (slice_index vertex.basis.rows k)).0 (contains_item vertex.basis.rows k lk))

pub returns-in_err-inside-clause-spill : goal.returns-in_err-inside-clause-spill
returns-in_err-inside-clause-spill g c =
    let value = g.F.Exact.value in
    let range = g.F.Exact.range in
    let v = c.args.self.now in
    let returned = err_from_is_err_and c.from_residual-in_err-inside.result c.from_residual-in_err-inside.ensures.1 in
    rw (returned.1, returned.2)
    (short_weaker (λ s. AtSome v.tableau.now.problem.columns (λ j. IsWeighingSpill value range v c.args.from j s)) (IsSpillHere value range v c.args.from)
    (entered_spill value v c.requires.station c.args.from range) _ (c.in_err-inside.ensures {u = tt}).spill)

pub basic_values-requires-2-clause-members : goal.basic_values-requires-2-clause-members
basic_values-requires-2-clause-members g c κs within =
    let vertex = c.in_ok-vertex.vertex in
    rw c.as_slice-2.ensures (λ k lk. ((c.in_ok-vertex.ensures {u = tt}).rows (slice_index vertex.basis.rows k)).0 (contains_item vertex.basis.rows k lk))

pub returns-in_err-outside-clause-spill : goal.returns-in_err-outside-clause-spill
returns-in_err-outside-clause-spill g c =
    let value = g.F.Exact.value in
    let range = g.F.Exact.range in
    let v = c.args.self.now in
    let weight = c.turned-weight.result in
    let returned = err_from_is_err_and c.from_residual-in_err-outside.result c.from_residual-in_err-outside.ensures.1 in
    rw (returned.1, returned.2)
    (short_weaker (λ s. AtSome v.tableau.now.problem.columns (λ j. IsWeighingSpill value range v weight j s)) (IsSpillHere value range v c.args.from)
    (break_spill value v c.requires.station c.args.from c.args.next c.requires.beyond.0 weight weight c.turned-weight.ensures range) _ (c.in_err-outside.ensures {u = tt}).spill)

pub returns-clause-end : goal.returns-clause-end
returns-clause-end g c =
    let value = g.F.Exact.value in
    let v = c.args.self.now in
    let vertex = c.in_ok-vertex.vertex in
    let weight = c.turned-weight.result in
    let inside = rw c.as_slice.ensures at (c.in_ok-inside.ensures {u = tt}) in
    let outside = rw c.as_slice-2.ensures at (c.in_ok-outside.ensures {u = tt}) in
    finite_end_is value v c.requires.station c.args.from c.args.next c.requires.beyond vertex (c.in_ok-vertex.ensures {u = tt}) c.in_ok-value.value c.in_ok-inside.inside c.in_ok-outside.outside
    (ap rational (c.in_ok-value.ensures {u = tt}) ∙ coef_read value v c.requires.station c.index-as_slice-column.result (rw c.as_slice-3.ensures at c.index-as_slice-column.is))
    (values_entered value v c.requires.station c.args.from vertex c.in_ok-inside.inside inside.size inside.each)
    (values_there value v c.requires.station c.args.from c.args.next c.requires.beyond.0 weight weight c.turned-weight.ensures vertex c.in_ok-outside.outside outside.size outside.each)
