use Rattle.std.proofs.Common.{[], ◌∷◌, ◌++◌, ap, ◌∙◌, arith}
use Rattle.report_text.specs.Said.{side_mark}
use Rattle.report_text.proofs.Duals.{flat_more}
use Rattle.report_text.proofs.sides.with_marks.Goals as goal

pub loop-side-preserved : goal.loop-side-preserved
loop-side-preserved c = (
  flat_more (side_mark c.args.are_data) c.args.sides.now c.loop-side.side-index _ c.args.line.items _ _ c.loop-side-test.true c.loop-side.invariant.0
      (c.push_reserved.ensures.items ∙ ap (λ m. c.loop-side.line.items ++ m ∷ []) c.score_mark.ensures),
  (omega (arith, c.push_reserved.ensures.len, c.loop-side.invariant.1.0), c.push_reserved.ensures.capacity ∙ c.loop-side.invariant.1.1),
)
