use Rattle.std.proofs.Common.{All, ◌≡◌, ◌≤◌, ◌++◌, ◌-◌, ◌∙◌, [], ◌∷◌, ap, arith, inl, inr, length, map, refl, subst, sym}
use Rattle.std.proofs.lemmas.Result.{err_from_is_err_and}
use Rattle.frac_core.specs.Values.{exact}
use Rattle.design_matrix.specs.CodedVariable.{coded_terms}
use Rattle.formula_parser.specs.Held.{ariths_of}
use Rattle.design_matrix.specs.Computed.{CanEvaluate, offsets_at}
use Rattle.design_matrix.specs.Designs.{ArithsFit, OverflowsInAriths, OverflowsInRow, RowFits}
use Rattle.design_matrix.specs.Faults.{terms_fault}
use Rattle.design_matrix.specs.Parts.{columns_of, factors}
use Rattle.design_matrix.specs.Predicted.{in_ariths, in_entries, kept_in, unknown_level}
use Rattle.design_matrix.specs.Products.{product}
use Rattle.design_matrix.proofs.Evaluable.{each_one, expressions_all, held_can, offsets_can}
use Rattle.design_matrix.proofs.Behind.{names_alike}
use Rattle.design_matrix.proofs.Predicting.{asked_from, behind, few_behind, few_with, sound_with, wide_with}
use Rattle.design_matrix.proofs.predicted_row.predict_row.Goals as goal

pub overflow_sub-index : goal.overflow_sub-index
overflow_sub-index c = (asked_from c.args.frame.now c.args.model.now c.requires.asked).some

pub last_entries-requires-clause-counted : goal.last_entries-requires-clause-counted
last_entries-requires-clause-counted c =
    let here = c.as_slice.ensures.value ∙ c.in_ok-push.ensures.items ∙ ap (λ l. l ++ (c.args.rec - 1) ∷ []) c.in_ok-records.ensures.kept in
    let few = few_behind _ _ _ _ _ c.requires.built.1 c.args.rec _ (asked_from c.args.frame.now c.args.model.now c.requires.asked) here in
    omega (arith, few, c.in_ok-records.ensures.counted)

pub last_entries-requires-clause-usable : goal.last_entries-requires-clause-usable
last_entries-requires-clause-usable c =
    let here = c.as_slice.ensures.value ∙ c.in_ok-push.ensures.items ∙ ap (λ l. l ++ (c.args.rec - 1) ∷ []) c.in_ok-records.ensures.kept in
    let kept = c.deref.ensures.value ∙ c.in_ok-records.ensures.kept in
    let known = ap (λ r. unknown_level c.args.frame.now c.args.model.now r (c.args.rec - 1)) (sym kept) ∙ c.in_ok-check_levels.ensures.sound in
    ap (λ r. terms_fault (coded_terms c.args.frame.now c.args.model.now c.args.coding r)) here
    ∙ sound_with _ _ _ _ _ c.requires.built.1 (c.args.rec - 1) known

pub last_entries-requires-clause-few : goal.last_entries-requires-clause-few
last_entries-requires-clause-few c =
    let here = c.as_slice.ensures.value ∙ c.in_ok-push.ensures.items ∙ ap (λ l. l ++ (c.args.rec - 1) ∷ []) c.in_ok-records.ensures.kept in
    let kept = c.deref.ensures.value ∙ c.in_ok-records.ensures.kept in
    let known = ap (λ r. unknown_level c.args.frame.now c.args.model.now r (c.args.rec - 1)) (sym kept) ∙ c.in_ok-check_levels.ensures.sound in
    subst (λ r. length (columns_of c.args.frame.now c.args.model.now c.args.coding r) ≤ 128) (sym here)
    (few_with _ _ _ _ _ c.requires.built.1 (c.args.rec - 1) known)

pub check_ariths-requires-clause-usable : goal.check_ariths-requires-clause-usable
check_ariths-requires-clause-usable c =
    let can = held_can c.args.frame.now.names (ariths_of c.args.model.now) c.requires.held in
    each_one CanEvaluate (λ a. a.now) c.deref-2.result.now
    (subst (All CanEvaluate) (sym (ap (map (λ a. a.now)) c.deref-2.ensures.value ∙ c.in_ok-ariths.ensures)) (expressions_all CanEvaluate c.args.model.now can))

pub offset_values-requires : goal.offset_values-requires
offset_values-requires c =
    let can = held_can c.args.frame.now.names (ariths_of c.args.model.now) c.requires.held in
    subst (All CanEvaluate) (sym c.as_slice-2.ensures) (offsets_can c.args.model.now can)

pub last_entries-requires-clause-held : goal.last_entries-requires-clause-held
last_entries-requires-clause-held c = held_can c.args.frame.now.names (ariths_of c.args.model.now) c.requires.held

pub returns-in_err-check_ariths-clause-fault : goal.returns-in_err-check_ariths-clause-fault
returns-in_err-check_ariths-clause-fault c =
    let kept = c.deref.ensures.value ∙ c.in_ok-records.ensures.kept in
    let known = ap (λ r. unknown_level c.args.frame.now c.args.model.now r (c.args.rec - 1)) (sym kept) ∙ c.in_ok-check_levels.ensures.sound in
    let ariths = ap (map (λ a. a.now)) c.deref-2.ensures.value ∙ c.in_ok-ariths.ensures in
    let p = err_from_is_err_and c.from_residual-in_err-check_ariths.result c.from_residual-in_err-check_ariths.ensures.1 in
    rw (p.1, p.2) (elim c.in_err-check_ariths.ensures.fault [
      | inl memory ↦ inl memory
      | inr spilt ↦ inr (inr (known, (spilt.0, spilt.1, in_ariths (subst (λ l. OverflowsInAriths c.args.frame.now l (c.args.rec - 1) spilt.0) ariths spilt.2))))
    ])

pub returns-in_err-x-clause-fault : goal.returns-in_err-x-clause-fault
returns-in_err-x-clause-fault c =
    let here = c.as_slice.ensures.value ∙ c.in_ok-push.ensures.items ∙ ap (λ l. l ++ (c.args.rec - 1) ∷ []) c.in_ok-records.ensures.kept in
    let kept = c.deref.ensures.value ∙ c.in_ok-records.ensures.kept in
    let known = ap (λ r. unknown_level c.args.frame.now c.args.model.now r (c.args.rec - 1)) (sym kept) ∙ c.in_ok-check_levels.ensures.sound in
    let p = err_from_is_err_and c.from_residual-in_err-x.result c.from_residual-in_err-x.ensures.1 in
    rw (p.1, p.2) (elim c.in_err-x.ensures.fault [
      | inl memory ↦ inl memory
      | inr spilt ↦ inr (inr (
        known,
        (
          spilt.0,
          spilt.1,
          in_entries (subst (λ l. ArithsFit c.args.frame.now l (c.args.rec - 1)) (ap (map (λ a. a.now)) c.deref-2.ensures.value ∙ c.in_ok-ariths.ensures) c.in_ok-check_ariths.ensures.fits)
              (behind (λ l n. OverflowsInRow (columns_of c.args.frame.now c.args.model.now c.args.coding l) n c.args.rec spilt.0) (kept_in c.args.design.now) _ (c.args.rec - 1) here spilt.2),
        ),
      ))
    ])

pub returns-clause-row : goal.returns-clause-row
returns-clause-row c =
    let here = c.as_slice.ensures.value ∙ c.in_ok-push.ensures.items ∙ ap (λ l. l ++ (c.args.rec - 1) ∷ []) c.in_ok-records.ensures.kept in
    let kept = c.deref.ensures.value ∙ c.in_ok-records.ensures.kept in
    let known = ap (λ r. unknown_level c.args.frame.now c.args.model.now r (c.args.rec - 1)) (sym kept) ∙ c.in_ok-check_levels.ensures.sound in
    let columns = columns_of c.args.frame.now c.args.model.now c.args.coding in
    record {
      known = known;
      named = refl;
      columns = names_alike c.args.frame.now c.args.model.now c.args.coding (kept_in c.args.design.now) (c.args.rec - 1) known;
      entries = ap (map exact) c.from.ensures
          ∙ behind (λ l n. map exact c.in_ok-x.x.items ≡ map (λ column. product (factors column n)) (columns l)) (kept_in c.args.design.now) _ (c.args.rec - 1) here c.in_ok-x.ensures.exact;
      fits = behind (λ l n. RowFits (columns l) n) (kept_in c.args.design.now) _ (c.args.rec - 1) here c.in_ok-x.ensures.fits;
      offsets = ap (map exact) c.from-2.ensures ∙ c.in_ok-offsets.ensures ∙ ap (λ l. offsets_at c.args.frame.now l (c.args.rec - 1)) c.as_slice-2.ensures;
      computed = subst (λ l. ArithsFit c.args.frame.now l (c.args.rec - 1)) (ap (map (λ a. a.now)) c.deref-2.ensures.value ∙ c.in_ok-ariths.ensures) c.in_ok-check_ariths.ensures.fits;
    }

pub returns-clause-wide : goal.returns-clause-wide
returns-clause-wide c =
    let row = returns-clause-row c in
    wide_with _ _ _ _ _ c.requires.built.1 (c.args.rec - 1) row.known (λ column. product (factors column (length (kept_in c.args.design.now)))) c.from.result row.entries
