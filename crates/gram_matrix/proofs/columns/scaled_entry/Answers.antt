use Rattle.std.proofs.Common.{◌≡◌, List, get_or, refl, ap, ap₂, ◌∙◌}
use Rattle.std.proofs.lemmas.Result.{err_from_is_err_and}
use Rattle.rational_laws.specs.Rational.{◌*ℚ◌}
use Rattle.frac_core.specs.declared.exact.OpKind.TheVariants.{Mul}
use Rattle.loss_model.specs.declared.spill.Quantity.TheVariants.{ScaledEntry}
use Rattle.loss_model.specs.Spill.{site_of}
use Rattle.gram_matrix.proofs.Rows.{weight_read, entry_read}
use Rattle.gram_matrix.proofs.Rows.{operation}
use Rattle.gram_matrix.proofs.columns.scaled_entry.Goals as goal

pub returns-clause-exact : goal.returns-clause-exact
returns-clause-exact g c =
    let value = g.F.Exact.value in
    let p = c.args.problem.now in
    let row_is = rw c.as_slice.ensures at c.index-as_slice-row.is in
    let same : c.as_slice-2.result.now ≡ c.index-as_slice-row.result.x = c.as_slice-2.ensures in
    let entry_is = c.index-as_slice-column.is ∙ ap (λ (xs : List g.row.F.Denot). get_or xs c.args.column c.index-as_slice-column.result) same in
    (c.in_ok-entry.ensures {u = tt}).exact
    ∙ ap₂ (λ x y. x *ℚ y) (weight_read value p c.args.row c.args.column c.index-as_slice-row.result c.index-as_slice-column.result c.requires.row row_is)
    (entry_read value p c.args.row c.args.column c.index-as_slice-row.result c.index-as_slice-column.result c.requires.row row_is c.requires.shaped c.requires.column entry_is)

pub returns-in_err-entry-clause-spill : goal.returns-in_err-entry-clause-spill
returns-in_err-entry-clause-spill g c =
    let value = g.F.Exact.value in
    let p = c.args.problem.now in
    let row_is = rw c.as_slice.ensures at c.index-as_slice-row.is in
    let same : c.as_slice-2.result.now ≡ c.index-as_slice-row.result.x = c.as_slice-2.ensures in
    let entry_is = c.index-as_slice-column.is ∙ ap (λ (xs : List g.row.F.Denot). get_or xs c.args.column c.index-as_slice-column.result) same in
    let returned = err_from_is_err_and c.from_residual.result c.from_residual.ensures.1 in
    let refused = c.in_err-entry.ensures {u = tt} in
    let operands = rw c.new-site.ensures at refused.operands in
    let over = refused.refused.0 refl in
    rw (returned.1, returned.2)
    (operation value g.F.Exact.range (site_of ScaledEntry c.args.row c.args.column 1) Mul c.index-as_slice-row.result.up1 c.index-as_slice-column.result _ _ c.in_err-entry.field-0.0 operands over
    (weight_read value p c.args.row c.args.column c.index-as_slice-row.result c.index-as_slice-column.result c.requires.row row_is)
    (entry_read value p c.args.row c.args.column c.index-as_slice-row.result c.index-as_slice-column.result c.requires.row row_is c.requires.shaped c.requires.column entry_is))
