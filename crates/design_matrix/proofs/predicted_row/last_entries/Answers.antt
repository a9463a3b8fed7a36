use Rattle.std.proofs.Common.{◌≡◌, ◌-◌, ◌∙◌, List, ap, arith, inl, inr, length, map, subst}
use Rattle.std.proofs.lemmas.List.{length-map}
use Rattle.std.proofs.lemmas.Result.{err_from_is_err_and}
use Rattle.design_matrix.specs.Designs.{OverflowsInRow, RowFits}
use Rattle.design_matrix.specs.Parts.{Part, columns_of, factors}
use Rattle.design_matrix.specs.Products.{product}
use Rattle.design_matrix.specs.Views.{columns_seen, part_seen, terms_seen}
use Rattle.design_matrix.proofs.Building.{told_columns, told_few, told_usable}
use Rattle.design_matrix.proofs.Evaluable.{variables_can}
use Rattle.design_matrix.proofs.predicted_row.last_entries.Goals as goal

pub terms-requires-clause-usable : goal.terms-requires-clause-usable
terms-requires-clause-usable c = variables_can c.args.coder.now.model.now c.requires.held

pub design_columns-requires-clause-usable : goal.design_columns-requires-clause-usable
design_columns-requires-clause-usable c =
    told_usable _ _ _ _ c.deref.result.now (ap terms_seen c.deref.ensures.value ∙ c.in_ok-terms.ensures.coded) c.requires.few c.requires.usable

pub design_columns-requires-clause-few : goal.design_columns-requires-clause-few
design_columns-requires-clause-few c =
    told_few _ _ _ _ c.deref.result.now (ap terms_seen c.deref.ensures.value ∙ c.in_ok-terms.ensures.coded) c.requires.few

pub entries_of-requires-clause-few : goal.entries_of-requires-clause-few
entries_of-requires-clause-few c =
    let coder = c.args.coder.now in
    let told = ap columns_seen c.deref-2.ensures.value ∙ c.in_ok-columns.ensures.columns
    ∙ told_columns _ _ _ _ c.deref.result.now (ap terms_seen c.deref.ensures.value ∙ c.in_ok-terms.ensures.coded) in
    let seen : length (columns_seen c.deref-2.result.now) ≡ length c.deref-2.result.now = length-map c.deref-2.result.now (λ parts. map part_seen parts.items) in
    let same : length (columns_seen c.deref-2.result.now) ≡ length (columns_of coder.frame.now coder.model.now coder.contrasts coder.records.now) = ap length told in
    omega (arith, c.requires.few)

pub returns-in_err-entries-clause-fault : goal.returns-in_err-entries-clause-fault
returns-in_err-entries-clause-fault c =
    let told = ap columns_seen c.deref-2.ensures.value ∙ c.in_ok-columns.ensures.columns
    ∙ told_columns _ _ _ _ c.deref.result.now (ap terms_seen c.deref.ensures.value ∙ c.in_ok-terms.ensures.coded) in
    let p = err_from_is_err_and c.from_residual-in_err-entries.result c.from_residual-in_err-entries.ensures.1 in
    rw (p.1, p.2) (elim c.in_err-entries.ensures.fault [
      | inl memory ↦ inl memory
      | inr spilt ↦ inr (spilt.0, spilt.1, subst (λ cs. OverflowsInRow cs (length c.args.coder.now.records.now - 1) c.args.rec spilt.0) told spilt.2)
    ])

pub returns-clause-exact : goal.returns-clause-exact
returns-clause-exact c =
    let told = ap columns_seen c.deref-2.ensures.value ∙ c.in_ok-columns.ensures.columns
    ∙ told_columns _ _ _ _ c.deref.result.now (ap terms_seen c.deref.ensures.value ∙ c.in_ok-terms.ensures.coded) in
    c.in_ok-entries.ensures.exact ∙ ap (map (λ column. product (factors column (length c.args.coder.now.records.now - 1)))) told

pub returns-clause-fits : goal.returns-clause-fits
returns-clause-fits c =
    let told = ap columns_seen c.deref-2.ensures.value ∙ c.in_ok-columns.ensures.columns
    ∙ told_columns _ _ _ _ c.deref.result.now (ap terms_seen c.deref.ensures.value ∙ c.in_ok-terms.ensures.coded) in
    let P : List (List Part) → Type 0 = λ cs. RowFits cs (length c.args.coder.now.records.now - 1) in
    subst P told c.in_ok-entries.ensures.fits
