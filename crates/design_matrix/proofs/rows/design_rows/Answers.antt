use Rattle.std.proofs.Common.{All, ap, below_more, inl, inr, map, refl, subst, sym, ℕ, ◌∙◌, get_or, ◌+◌}
use Rattle.std.proofs.lemmas.Result.{err_from_is_err_and}
use Rattle.std.proofs.lemmas.List.{get_or_default}
use Rattle.frac_core.specs.Values.{exact}
use Rattle.data_frame.specs.Views.{lent_column}
use Rattle.design_matrix.specs.Cells.{number_at}
use Rattle.design_matrix.specs.Computed.{CanEvaluate, offsets_at}
use Rattle.design_matrix.specs.Designs.{ArithsFit, OverflowsInAriths, OverflowsInResponse, RecordFits, ResponseFits, in_ariths, in_entries, in_response, exact_row, row_of}
use Rattle.design_matrix.specs.Views.{columns_seen, weights_seen}
use Rattle.design_matrix.proofs.Evaluable.{each_one, expressions_all, offsets_can}
use Rattle.design_matrix.proofs.Overflows.{first_record}
use Rattle.design_matrix.proofs.Steps.{each_told}
use Rattle.design_matrix.proofs.rows.design_rows.Goals as goal

pub check_ariths-requires-clause-usable : goal.check_ariths-requires-clause-usable
check_ariths-requires-clause-usable c =
    let ariths = ap (map (λ a. a.now)) c.deref.ensures.value ∙ c.in_ok-ariths.ensures in
    each_one CanEvaluate (λ a. a.now) c.deref.result.now (subst (All CanEvaluate) (sym ariths) (expressions_all CanEvaluate c.args.coder.now.model.now c.requires.usable))

pub response_of-requires-clause-usable : goal.response_of-requires-clause-usable
response_of-requires-clause-usable c = offsets_can c.args.coder.now.model.now c.requires.usable

pub returns-in_err-check_ariths-clause-fault : goal.returns-in_err-check_ariths-clause-fault
returns-in_err-check_ariths-clause-fault c =
    let coder = c.args.coder.now in
    let index = get_or coder.records.now c.loop-place.place 0 in
    let ariths = ap (map (λ a. a.now)) c.deref.ensures.value ∙ c.in_ok-ariths.ensures in
    let p = err_from_is_err_and c.from_residual-in_err-check_ariths.result c.from_residual-in_err-check_ariths.ensures.1 in
    rw (p.1, p.2) (elim c.in_err-check_ariths.ensures.fault [
      | inl memory ↦ inl memory
      | inr spilt ↦ inr (
        spilt.0,
        spilt.1,
        first_record coder.frame.now coder.model.now (columns_seen c.args.columns.now) coder.records.now _ index spilt.0 c.loop-place-test.true refl c.loop-place.invariant.fits
            (in_ariths (subst (λ l. OverflowsInAriths coder.frame.now l index spilt.0) ariths spilt.2)),
      )
    ])

pub returns-in_err-y-clause-fault : goal.returns-in_err-y-clause-fault
returns-in_err-y-clause-fault c =
    let coder = c.args.coder.now in
    let index = get_or coder.records.now c.loop-place.place 0 in
    let ariths = ap (map (λ a. a.now)) c.deref.ensures.value ∙ c.in_ok-ariths.ensures in
    let fits = subst (λ l. ArithsFit coder.frame.now l index) ariths c.in_ok-check_ariths.ensures.fits in
    let p = err_from_is_err_and c.from_residual-in_err-y.result c.from_residual-in_err-y.ensures.1 in
    rw (p.1, p.2) (elim c.in_err-y.ensures.fault [
      | inl memory ↦ inl memory
      | inr spilt ↦ inr (
        spilt.0,
        spilt.1,
        first_record coder.frame.now coder.model.now (columns_seen c.args.columns.now) coder.records.now _ index spilt.0 c.loop-place-test.true refl c.loop-place.invariant.fits
            (in_response fits (subst (λ r. OverflowsInResponse (number_at r index) (offsets_at coder.frame.now coder.model.now.offsets index) (index + 1) spilt.0) c.requires.response spilt.2)),
      )
    ])

pub returns-in_err-entries-clause-fault : goal.returns-in_err-entries-clause-fault
returns-in_err-entries-clause-fault c =
    let coder = c.args.coder.now in
    let index = get_or coder.records.now c.loop-place.place 0 in
    let ariths = ap (map (λ a. a.now)) c.deref.ensures.value ∙ c.in_ok-ariths.ensures in
    let fits = subst (λ l. ArithsFit coder.frame.now l index) ariths c.in_ok-check_ariths.ensures.fits in
    let response = subst (λ r. ResponseFits (number_at r index) (offsets_at coder.frame.now coder.model.now.offsets index)) c.requires.response c.in_ok-y.ensures.fits in
    let p = err_from_is_err_and c.from_residual-in_err-entries.result c.from_residual-in_err-entries.ensures.1 in
    rw (p.1, p.2) (elim c.in_err-entries.ensures.fault [
      | inl memory ↦ inl memory
      | inr spilt ↦ inr (
        spilt.0,
        spilt.1,
        first_record coder.frame.now coder.model.now (columns_seen c.args.columns.now) coder.records.now _ index spilt.0 c.loop-place-test.true refl c.loop-place.invariant.fits
            (in_entries fits response spilt.2),
      )
    ])

pub loop-place-preserved : goal.loop-place-preserved
loop-place-preserved c =
    let coder = c.args.coder.now in
    let index = get_or coder.records.now c.loop-place.place 0 in
    let ariths = ap (map (λ a. a.now)) c.deref.ensures.value ∙ c.in_ok-ariths.ensures in
    let P : ℕ → Type 0 = λ q. RecordFits coder.frame.now coder.model.now (columns_seen c.args.columns.now) q (get_or coder.records.now q 0) in
    let entries = ap (map exact) c.from.ensures ∙ c.in_ok-entries.ensures.exact in
    record {
      made = each_told exact_row (row_of coder.frame.now (lent_column c.args.used.now.response) coder.model.now.offsets (weights_seen c.args.used.now.weights) (columns_seen c.args.columns.now)) coder.records.now _ index _ _ _
          c.loop-place-test.true
          (get_or_default coder.records.now c.loop-place.place 0 index c.loop-place-test.true) c.loop-place.invariant.made c.in_ok-push.ensures.items
          (λ i. record { rec = index + 1; x = entries i; y = c.in_ok-y.ensures.exact i; weight = c.weight.ensures i });
      fits = below_more P _ c.loop-place.invariant.fits (record {
        ariths = subst (λ l. ArithsFit coder.frame.now l index) ariths c.in_ok-check_ariths.ensures.fits;
        response = subst (λ r. ResponseFits (number_at r index) (offsets_at coder.frame.now coder.model.now.offsets index)) c.requires.response c.in_ok-y.ensures.fits;
        entries = c.in_ok-entries.ensures.fits;
      });
    }
