use Rattle.std.proofs.Common.{◌≡◌, ◌-◌, ◌∙◌, List, Vec, ap, arith, inl, inr, length, map, subst, sym}
use Rattle.std.specs.declared.alloc.Global.{Global}
use Rattle.std.proofs.lemmas.List.{length-map}
use Rattle.std.proofs.lemmas.Result.{err_from_is_err_and}
use Rattle.design_matrix.specs.declared.part.Part.{Part as Held}
use Rattle.design_matrix.specs.Designs.{exact_row}
use Rattle.design_matrix.specs.Parts.{column_name, columns_in}
use Rattle.design_matrix.specs.Views.{columns_seen, part_seen, terms_seen}
use Rattle.design_matrix.proofs.Building.{made, overflowed, seen_columns}
use Rattle.design_matrix.proofs.Lengths.{AreShort, terms_part}
use Rattle.design_matrix.proofs.Usable.{terms_few}
use Rattle.design_matrix.proofs.builder.design_from.Goals as goal

pub design_columns-requires : goal.design_columns-requires
design_columns-requires c =
    let part = terms_part c.args.coder.now.model.now.intercept (terms_seen c.args.terms.now) in
    record {
      usable = c.requires.usable;
      few = terms_few c.args.terms.now (omega (arith, part, c.requires.few));
      short = c.requires.short;
    }

pub design_rows-requires : goal.design_rows-requires
design_rows-requires c =
    let seen : length (columns_seen c.in_ok-columns.columns.items) ≡ length c.in_ok-columns.columns.items =
    length-map c.in_ok-columns.columns.items (λ parts. map part_seen parts.items) in
    let same : length (columns_seen c.in_ok-columns.columns.items) ≡ length (columns_in c.args.coder.now.model.now.intercept (terms_seen c.args.terms.now)) =
    ap length c.in_ok-columns.ensures.columns in
    let here : length c.deref-2.result.now ≡ length c.in_ok-columns.columns.items = ap length c.deref-2.ensures.value in
    let P : List (Vec Held Global) → Type 0 = λ l. AreShort l in
    record {
      numbered = c.requires.numbered;
      response = c.requires.response;
      usable = c.requires.held;
      few = omega (arith, c.requires.few);
      short = subst P (sym c.deref-2.ensures.value) c.in_ok-columns.ensures.short;
    }

pub returns-clause-design : goal.returns-clause-design
returns-clause-design c =
    made _ _ _ _ c.args.coder.now.records.now (columns_seen c.deref-2.result.now) _ _
    (ap columns_seen c.deref-2.ensures.value ∙ seen_columns _ _ _ _ _ _ c.in_ok-columns.ensures.columns c.requires.coded)
    c.requires.response
    (c.from.ensures ∙ c.in_ok-names.ensures ∙ ap (λ l. map column_name (columns_seen l)) (c.deref.ensures.value ∙ sym c.deref-2.ensures.value))
    (ap (map exact_row) c.from-2.ensures ∙ c.in_ok-rows.ensures.exact)
    (ap (λ n. n - length c.args.coder.now.records.now) c.records.ensures)
    c.in_ok-rows.ensures.fits

pub returns-in_err-rows-clause-fault : goal.returns-in_err-rows-clause-fault
returns-in_err-rows-clause-fault c =
    let p = err_from_is_err_and c.from_residual-in_err-rows.result c.from_residual-in_err-rows.ensures.1 in
    rw (p.1, p.2) (elim c.in_err-rows.ensures.fault [
      | inl memory ↦ inl memory
      | inr spilt ↦ inr (overflowed _ _ _ c.args.coder.now.records.now (columns_seen c.deref-2.result.now) _ spilt.0
          (ap columns_seen c.deref-2.ensures.value ∙ seen_columns _ _ _ _ _ _ c.in_ok-columns.ensures.columns c.requires.coded)
          spilt.1 spilt.2)
    ])
