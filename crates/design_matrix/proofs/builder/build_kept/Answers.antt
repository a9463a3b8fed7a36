use Rattle.std.proofs.Common.{◌≡◌, ◌<◌, ◌≤◌, ◌∙◌, All, List, Vec, ap, arith, inl, inr, length, subst, sym}
use Rattle.std.specs.declared.alloc.Global.{Global}
use Rattle.std.proofs.lemmas.Result.{err_from_is_err_and}
use Rattle.design_matrix.specs.declared.coded.CodedVariable.{CodedVariable as Held}
use Rattle.design_matrix.specs.Faults.{terms_fault}
use Rattle.design_matrix.specs.Parts.{columns_in}
use Rattle.design_matrix.specs.Views.{terms_seen}
use Rattle.design_matrix.specs.Widths.{IsUsable}
use Rattle.design_matrix.proofs.Building.{coded_from, late_empty, late_many, late_none, late_terms, usable_from}
use Rattle.design_matrix.proofs.Evaluable.{variables_can}
use Rattle.design_matrix.proofs.builder.build_kept.Goals as goal

pub terms-requires-clause-usable : goal.terms-requires-clause-usable
terms-requires-clause-usable c = variables_can c.args.coder.now.model.now c.requires.held

pub returns-in_err-check_terms-clause-fault : goal.returns-in_err-check_terms-clause-fault
returns-in_err-check_terms-clause-fault c =
    let p = err_from_is_err_and c.from_residual-in_err-check_terms.result c.from_residual-in_err-check_terms.ensures.1 in
    let coded = ap terms_seen c.deref.ensures.value ∙ coded_from _ _ _ _ (terms_seen c.in_ok-terms.terms.items) c.in_ok-terms.ensures.coded in
    rw (p.1, p.2) (elim c.in_err-check_terms.ensures.fault [
      | inl memory ↦ inl memory
      | inr fault ↦ inr (inl (late_terms _ _ _ _ _ coded _ fault))
    ])

pub returns-then-has_no_columns-clause-fault : goal.returns-then-has_no_columns-clause-fault
returns-then-has_no_columns-clause-fault c =
    let coded = coded_from _ _ _ _ (terms_seen c.in_ok-terms.terms.items) c.in_ok-terms.ensures.coded in
    let sound = ap (λ l. terms_fault (terms_seen l)) (sym c.deref.ensures.value) ∙ c.in_ok-check_terms.ensures.sound in
    inr (inl (late_empty _ _ _ _ _ coded sound (sym c.has_no_columns.ensures ∙ c.if-has_no_columns.true)))

pub returns-then-count-from-clause-fault : goal.returns-then-count-from-clause-fault
returns-then-count-from-clause-fault c =
    let sound = ap (λ l. terms_fault (terms_seen l)) (sym c.deref.ensures.value) ∙ c.in_ok-check_terms.ensures.sound in
    let same : length (columns_in c.args.coder.now.model.now.intercept (terms_seen c.deref-2.result.now)) ≡ length (columns_in c.args.coder.now.model.now.intercept (terms_seen c.in_ok-terms.terms.items)) =
    ap (λ l. length (columns_in c.args.coder.now.model.now.intercept (terms_seen l))) c.deref-2.ensures.value in
    let many : 128 < length (columns_in c.args.coder.now.model.now.intercept (terms_seen c.in_ok-terms.terms.items)) = omega (arith, c.column_count-count.ensures, c.if-count-from.true) in
    let coded = coded_from _ _ _ _ (terms_seen c.in_ok-terms.terms.items) c.in_ok-terms.ensures.coded in
    inr (inl (late_many _ _ _ _ _ coded sound (sym c.has_no_columns.ensures ∙ c.if-has_no_columns.false) many))

pub design_from-requires-clause-coded : goal.design_from-requires-clause-coded
design_from-requires-clause-coded c =
    ap terms_seen c.deref-3.ensures.value ∙ coded_from _ _ _ _ (terms_seen c.in_ok-terms.terms.items) c.in_ok-terms.ensures.coded

pub design_from-requires-clause-usable : goal.design_from-requires-clause-usable
design_from-requires-clause-usable c =
    let sound = ap (λ l. terms_fault (terms_seen l)) (sym c.deref.ensures.value) ∙ c.in_ok-check_terms.ensures.sound in
    let same : length (columns_in c.args.coder.now.model.now.intercept (terms_seen c.deref-2.result.now)) ≡ length (columns_in c.args.coder.now.model.now.intercept (terms_seen c.in_ok-terms.terms.items)) =
    ap (λ l. length (columns_in c.args.coder.now.model.now.intercept (terms_seen l))) c.deref-2.ensures.value in
    let few : length (columns_in c.args.coder.now.model.now.intercept (terms_seen c.in_ok-terms.terms.items)) ≤ 128 = omega (arith, c.column_count-count.ensures, c.if-count-from.false) in
    let P : List (Vec Held Global) → Type 0 = λ l. All (λ vs. All IsUsable vs.items) l in
    subst P (sym c.deref-3.ensures.value) (usable_from c.in_ok-terms.terms.items c.args.coder.now.model.now.intercept sound few)

pub returns-in-Ok-clause-sound : goal.returns-in-Ok-clause-sound
returns-in-Ok-clause-sound c =
    let sound = ap (λ l. terms_fault (terms_seen l)) (sym c.deref.ensures.value) ∙ c.in_ok-check_terms.ensures.sound in
    let same : length (columns_in c.args.coder.now.model.now.intercept (terms_seen c.deref-2.result.now)) ≡ length (columns_in c.args.coder.now.model.now.intercept (terms_seen c.in_ok-terms.terms.items)) =
    ap (λ l. length (columns_in c.args.coder.now.model.now.intercept (terms_seen l))) c.deref-2.ensures.value in
    let few : length (columns_in c.args.coder.now.model.now.intercept (terms_seen c.in_ok-terms.terms.items)) ≤ 128 = omega (arith, c.column_count-count.ensures, c.if-count-from.false) in
    let coded = coded_from _ _ _ _ (terms_seen c.in_ok-terms.terms.items) c.in_ok-terms.ensures.coded in
    late_none _ _ _ _ _ coded sound (sym c.has_no_columns.ensures ∙ c.if-has_no_columns.false) few

pub returns-clause-fault : goal.returns-clause-fault
returns-clause-fault c =
    let sound = ap (λ l. terms_fault (terms_seen l)) (sym c.deref.ensures.value) ∙ c.in_ok-check_terms.ensures.sound in
    let same : length (columns_in c.args.coder.now.model.now.intercept (terms_seen c.deref-2.result.now)) ≡ length (columns_in c.args.coder.now.model.now.intercept (terms_seen c.in_ok-terms.terms.items)) =
    ap (λ l. length (columns_in c.args.coder.now.model.now.intercept (terms_seen l))) c.deref-2.ensures.value in
    let few : length (columns_in c.args.coder.now.model.now.intercept (terms_seen c.in_ok-terms.terms.items)) ≤ 128 = omega (arith, c.column_count-count.ensures, c.if-count-from.false) in
    let coded = coded_from _ _ _ _ (terms_seen c.in_ok-terms.terms.items) c.in_ok-terms.ensures.coded in
    elim c.in-Err.ensures.fault [
      | inl memory ↦ inl memory
      | inr overflow ↦ inr (inr (late_none _ _ _ _ _ coded sound (sym c.has_no_columns.ensures ∙ c.if-has_no_columns.false) few, overflow))
    ]
