use Rattle.std.proofs.Common.{◌∙◌, arith, inl, inr, length, map, option_copied, sym}
use Rattle.std.proofs.lemmas.Bool.{eqb-false, eqb-true}
use Rattle.std.proofs.lemmas.Result.{err_from_is_err_and}
use Rattle.data_frame.specs.Views.{lent_column}
use Rattle.design_matrix.specs.Cells.{is_kept}
use Rattle.design_matrix.specs.Views.{weights_seen}
use Rattle.design_matrix.proofs.Building.{caused, designed, fault_rows, fault_used, fewer_from, kept_from, numbered_from}
use Rattle.design_matrix.proofs.Shapes.{shaped}
use Rattle.formula_parser.specs.Held.{ariths_of}
use Rattle.design_matrix.proofs.Evaluable.{held_can}
use Rattle.design_matrix.proofs.builder.build.Goals as goal

pub build_kept-requires-clause-held : goal.build_kept-requires-clause-held
build_kept-requires-clause-held c = held_can c.args.frame.now.names (ariths_of c.args.model.now) c.requires.held

pub returns-in_err-used-clause-fault : goal.returns-in_err-used-clause-fault
returns-in_err-used-clause-fault c =
    let p = err_from_is_err_and c.from_residual.result c.from_residual.ensures.1 in
    rw (p.1, p.2) (elim c.in_err-used.ensures.fault [
      | inl memory ↦ inl memory
      | inr fault ↦ inr (inl (fault_used _ _ _ _ _ fault))
    ])

pub returns-then-is_empty-clause-fault : goal.returns-then-is_empty-clause-fault
returns-then-is_empty-clause-fault c =
    let here = c.as_slice-kept.ensures.value ∙ kept_from _ _ _ _ _ _ c.in_ok-used.ensures.used c.records.ensures c.in_ok-records.ensures in
    inr (inl (fault_rows _ _ _ _ c.in_ok-used.ensures.sound _ here (eqb-true (length c.as_slice-kept.result.now) 0 (sym c.is_empty.ensures ∙ c.if-is_empty.true))))

pub build_kept-requires-clause-numbered : goal.build_kept-requires-clause-numbered
build_kept-requires-clause-numbered c =
    numbered_from (is_kept (map lent_column c.in_ok-used.used.columns.items) (weights_seen c.in_ok-used.used.weights)) c.records.result c.as_slice-kept.result.now
    (c.as_slice-kept.ensures.value ∙ c.in_ok-records.ensures) (omega arith)

pub build_kept-requires-clause-fewer : goal.build_kept-requires-clause-fewer
build_kept-requires-clause-fewer c =
    let few = fewer_from (is_kept (map lent_column c.in_ok-used.used.columns.items) (weights_seen c.in_ok-used.used.weights)) c.records.result c.as_slice-kept.result.now
    (c.as_slice-kept.ensures.value ∙ c.in_ok-records.ensures) in
    omega (arith, few, c.records.ensures)

pub returns-in-Ok-clause-design : goal.returns-in-Ok-clause-design
returns-in-Ok-clause-design c =
    let here = c.as_slice-kept.ensures.value ∙ kept_from _ _ _ _ _ _ c.in_ok-used.ensures.used c.records.ensures c.in_ok-records.ensures in
    designed _ _ _ _ here c.in_ok-used.ensures.used (eqb-false (length c.as_slice-kept.result.now) 0 (sym c.is_empty.ensures ∙ c.if-is_empty.false)) c.in_ok-used.ensures.sound c.in-Ok.ensures.sound c.in-Ok.ensures.design

pub returns-in-Ok-clause-shape : goal.returns-in-Ok-clause-shape
returns-in-Ok-clause-shape c =
    shaped c.args.frame.now c.args.model.now c.args.coding (option_copied c.args.weights) c.in-Ok.design (returns-in-Ok-clause-design c)

pub returns-clause-fault : goal.returns-clause-fault
returns-clause-fault c =
    let here = c.as_slice-kept.ensures.value ∙ kept_from _ _ _ _ _ _ c.in_ok-used.ensures.used c.records.ensures c.in_ok-records.ensures in
    caused _ _ _ (option_copied c.args.weights) here (eqb-false (length c.as_slice-kept.result.now) 0 (sym c.is_empty.ensures ∙ c.if-is_empty.false)) c.in_ok-used.ensures.sound c.in-Err.ensures.fault
