use Rattle.std.proofs.Common.{map, slice_index, sym, ap, subst, ◌∙◌}
use Rattle.std.proofs.lemmas.Result.{err_from_is_err_and}
use Rattle.rational_laws.specs.Fraction.{rational}
use Rattle.rational_laws.proofs.Lists.{contains_item}
use Rattle.fraction_tableau.specs.Kept.{place}
use Rattle.fraction_tableau.proofs.Places.{kept_is_place}
use Rattle.tableau_model.specs.Standing.{AreCoefficients}
use Rattle.tableau_model.proofs.Vertices.{distinct_rows, coefficients_wide}
use Rattle.tableau_model.proofs.Segments.{segment_here}
use Rattle.fraction_tableau.proofs.NextSteps.{coefficients_by, sides_by}
use Rattle.fraction_tableau.proofs.fractions.FractionTableau.stay.Goals as goal

pub ascending-requires : goal.ascending-requires
ascending-requires g c =
    let value = g.F.Exact.value in
    let k = c.args.self.now in
    rw (c.as_slice.ensures, c.basis.ensures.rows) (record { distinct = distinct_rows value (place value k) (kept_is_place value k c.basis.ensures.kept) })

pub ends_at-requires-clause-members : goal.ends_at-requires-clause-members
ends_at-requires-clause-members g c κs within =
    let ordered = rw (c.as_slice.ensures, c.basis.ensures.rows) at (c.in_ok-sorted.ensures {u = tt}) in
    rw c.as_slice-2.ensures (λ k lk. (ordered.same (slice_index c.in_ok-sorted.sorted k)).0 (contains_item c.in_ok-sorted.sorted k lk))

pub returns-in_err-low-clause-refused : goal.returns-in_err-low-clause-refused
returns-in_err-low-clause-refused g c = λ hi stay.
    let returned = err_from_is_err_and c.from_residual-in_err-low.result c.from_residual-in_err-low.ensures.1 in
    rw (returned.1, returned.2) ((c.in_err-low.ensures {u = tt}).refused hi stay)

pub returns-clause-segment : goal.returns-clause-segment
returns-clause-segment g c =
    let value = g.F.Exact.value in
    let k = c.args.self.now in
    let h = place value k in
    let sol = c.in_ok-solution.solution in
    let solved = (c.in_ok-solution.ensures {u = tt}).solution in
    let ordered = rw (c.as_slice.ensures, c.basis.ensures.rows) at (c.in_ok-sorted.ensures {u = tt}) in
    let low = rw c.as_slice-2.ensures at (c.in_ok-low.ensures {u = tt}).low in
    let high = rw c.as_slice-2.ensures at (c.in_ok-low.ensures {u = tt}).high in
    let coef_made = (c.in_ok-coef.ensures {u = tt}) ∙ ap (map value) c.as_slice-3.ensures in
    let coefs = subst (AreCoefficients value h (λ x. x)) (sym coef_made) (coefficients_wide value h sol.coef (coefficients_by value h sol solved)) in
    segment_here value h (kept_is_place value k c.basis.ensures.kept) c.in_ok-coef.coef coefs sol.sides (sides_by value h sol solved)
    c.in_ok-sorted.sorted ordered.increasing ordered.size ordered.same (rational (value c.args.from)) (rational (value c.args.to)) c.in_ok-lo.lo c.in_ok-hi.hi
    c.in_ok-low.field-0.low c.in_ok-low.field-0.high (ap rational (c.in_ok-lo.ensures {u = tt})) (ap rational (c.in_ok-hi.ensures {u = tt})) low high

pub returns-in_err-coef-clause-refused : goal.returns-in_err-coef-clause-refused
returns-in_err-coef-clause-refused g c = λ hi stay.
    let returned = err_from_is_err_and c.from_residual-in_err-coef.result c.from_residual-in_err-coef.ensures.1 in
    rw (returned.1, returned.2) tt

pub returns-in_err-lo-clause-refused : goal.returns-in_err-lo-clause-refused
returns-in_err-lo-clause-refused g c = λ hi stay.
    let returned = err_from_is_err_and c.from_residual-in_err-lo.result c.from_residual-in_err-lo.ensures.1 in
    rw (returned.1, returned.2) tt

pub returns-in_err-hi-clause-refused : goal.returns-in_err-hi-clause-refused
returns-in_err-hi-clause-refused g c = λ hi stay.
    let returned = err_from_is_err_and c.from_residual-in_err-hi.result c.from_residual-in_err-hi.ensures.1 in
    rw (returned.1, returned.2) tt
