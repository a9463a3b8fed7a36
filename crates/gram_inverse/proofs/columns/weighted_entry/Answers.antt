use Rattle.std.proofs.Common.{◌≡◌, IfOk, arith, get_or, length, ap, ap₂, subst, ◌∙◌}
use Rattle.rational_laws.specs.Fraction.{rational}
use Rattle.rational_laws.specs.Rational.{◌*ℚ◌}
use Rattle.gram_matrix.proofs.Rows.{entry_read, weight_read, width_read}
use Rattle.gram_inverse.proofs.columns.weighted_entry.Goals as goal

pub bounds-as_slice-column : goal.bounds-as_slice-column
bounds-as_slice-column g c =
    let p = c.args.problem.now in
    let row_is = rw c.as_slice.ensures at c.index-as_slice-row.is in
    let wide : length c.index-as_slice-row.result.x ≡ p.columns =
    width_read g.F.Exact.value p c.args.row c.args.column c.index-as_slice-row.result c.index-as_slice-row.result.up1 c.requires.row row_is c.requires.shaped in
    omega (arith, wide, ap length c.as_slice-2.ensures, c.requires.column)

pub offset_bounds-as_slice-column : goal.offset_bounds-as_slice-column
offset_bounds-as_slice-column g c =
    let p = c.args.problem.now in
    let row_is = rw c.as_slice.ensures at c.index-as_slice-row.is in
    let wide : length c.index-as_slice-row.result.x ≡ p.columns =
    width_read g.F.Exact.value p c.args.row c.args.column c.index-as_slice-row.result c.index-as_slice-row.result.up1 c.requires.row row_is c.requires.shaped in
    omega (arith, wide, ap length c.as_slice-2.ensures, c.requires.column)

pub returns : goal.returns
returns g c =
    let value = g.F.Exact.value in
    let p = c.args.problem.now in
    let row_is = rw c.as_slice.ensures at c.index-as_slice-row.is in
    let same : c.as_slice-2.result.now ≡ c.index-as_slice-row.result.x = c.as_slice-2.ensures in
    let entry_is = c.index-as_slice-column.is ∙ ap (λ xs. get_or xs c.args.column c.index-as_slice-column.result) same in
    subst (λ z. IfOk c.times-weighted.result (λ r. rational r ≡ z))
    (ap₂ (λ x y. x *ℚ y)
    (ap rational (c.in_ok-weight.ensures {u = tt}) ∙ weight_read value p c.args.row c.args.column c.index-as_slice-row.result c.index-as_slice-column.result c.requires.row row_is)
    (entry_read value p c.args.row c.args.column c.index-as_slice-row.result c.index-as_slice-column.result c.requires.row row_is c.requires.shaped c.requires.column entry_is))
    c.times-weighted.ensures
