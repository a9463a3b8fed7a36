use Rattle.std.proofs.Common.{List, ap, inl, inr, map, subst, take_all, ◌∙◌, Vec}
use Rattle.std.specs.declared.alloc.Global.{Global}
use Rattle.std.proofs.lemmas.Result.{err_from_is_err_and}
use Rattle.frac_core.specs.Values.{exact}
use Rattle.design_matrix.specs.declared.part.Part.{Part as Held}
use Rattle.design_matrix.specs.Designs.{OverflowsInColumn, RowFits}
use Rattle.design_matrix.specs.Parts.{factors}
use Rattle.design_matrix.specs.Products.{Fits, product}
use Rattle.design_matrix.specs.Views.{columns_seen, part_seen}
use Rattle.design_matrix.proofs.Overflows.{in_row}
use Rattle.design_matrix.proofs.Steps.{all_told, told_more}
use Rattle.design_matrix.proofs.rows.entries_of.Goals as goal

pub returns-in-Err-clause-fault : goal.returns-in-Err-clause-fault
returns-in-Err-clause-fault c =
    elim c.in-Err.ensures.fault [
      | inl memory ↦ inl memory
      | inr spilt ↦
          let P : List Held → Type 0 = λ l. OverflowsInColumn (map part_seen l) c.args.place c.args.rec c.loop-column.column spilt.0 in
          inr (
            spilt.0,
            spilt.1,
            in_row (λ parts. map part_seen parts.items) c.args.columns.now _ _ c.args.place c.args.rec _ c.loop-column-test.true
                c.index-columns-column.is c.loop-column.invariant.fits (subst P c.deref.ensures.value spilt.2),
          )
    ]

pub loop-column-preserved : goal.loop-column-preserved
loop-column-preserved c =
    let P : List Held → Type 0 = λ l. Fits (factors (map part_seen l) c.args.place) in
    record {
      made = told_more exact (λ x. product (factors x c.args.place)) (λ parts. map part_seen parts.items) c.args.columns.now _ _ _ _ _ c.loop-column-test.true
          c.index-columns-column.is c.loop-column.invariant.made c.in_ok-push-in-Ok.ensures.items
          (c.in-Ok.ensures.exact ∙ ap (λ l. product (factors (map part_seen l) c.args.place)) c.deref.ensures.value);
      fits = all_told (λ x. Fits (factors x c.args.place)) (λ parts. map part_seen parts.items) c.args.columns.now _ _ c.loop-column-test.true
          c.index-columns-column.is c.loop-column.invariant.fits (subst P c.deref.ensures.value c.in-Ok.ensures.fits);
    }

pub returns-clause-fits : goal.returns-clause-fits
returns-clause-fits c =
    let Q : List (Vec Held Global) → Type 0 = λ l. RowFits (columns_seen l) c.args.place in
    subst Q (take_all _ _ c.loop-column-test.false) c.loop-column.invariant.fits

pub returns-clause-exact : goal.returns-clause-exact
returns-clause-exact c =
    c.loop-column.invariant.made ∙ ap (λ l. map (λ x. product (factors x c.args.place)) (columns_seen l)) (take_all _ _ c.loop-column-test.false)

pub returns-in_err-entries-clause-fault : goal.returns-in_err-entries-clause-fault
returns-in_err-entries-clause-fault c =
    let p = err_from_is_err_and c.from_residual.result c.from_residual.ensures.1 in
    rw p.1 (inl p.2)

pub returns-in_err-push-in-Ok-clause-fault : goal.returns-in_err-push-in-Ok-clause-fault
returns-in_err-push-in-Ok-clause-fault c =
    let p = err_from_is_err_and c.from_residual-in_err-push-in-Ok.result c.from_residual-in_err-push-in-Ok.ensures.1 in
    rw p.1 (inl p.2)
