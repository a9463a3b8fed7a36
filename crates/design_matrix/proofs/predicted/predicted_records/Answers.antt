use Rattle.std.proofs.Common.{◌≡◌, ◌+◌, ap, arith, filter, map, ◌∙◌}
use Rattle.std.specs.List.{range_with_len}
use Rattle.design_matrix.specs.Predicted.{is_predicted, predicted}
use Rattle.design_matrix.proofs.Asked.{asked_is, asked_more, asked_past}
use Rattle.design_matrix.proofs.predicted.predicted_records.Goals as goal
use Rattle.design_matrix.proofs.predicted.predicted_records.Goals.{then-is_asked+in_ok-add, else-is_asked}

pub loop-index-preserved : goal.loop-index-preserved
loop-index-preserved c =
    let test = is_predicted c.args.frame.now c.args.model.now in
    let found = asked_is c.args.frame.now c.args.model.now _ _ c.loop-index.index _ c.in-Ok.ensures.response c.in-Ok.ensures.columns c.is_asked.ensures in
    elim c.if-is_asked.branch [
      | then-is_asked+in_ok-add w ↦ asked_more test _ _ c.loop-index.invariant _ (w.records-is ∙ w.in_ok-add.ensures.added) (found ∙ w.if-is_asked.true)
      | else-is_asked w ↦ asked_past test _ _ c.loop-index.invariant _ w.records-is (found ∙ w.if-is_asked.false)
    ]

pub returns : goal.returns
unfolding predicted
returns c =
    let all : c.loop-index.index ≡ c.args.frame.now.records = omega (arith, c.loop-index-test.false, c.loop-index.auto.index-end, c.records-index-end.ensures) in
    c.loop-index.invariant ∙ ap (λ n. map (λ i. i + 1) (filter (is_predicted c.args.frame.now c.args.model.now) (range_with_len 0 n))) all
