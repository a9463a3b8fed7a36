use Rattle.std.proofs.Common.{arith}
use Rattle.report_text.proofs.ScoreLines.{scores_all, scores_more}
use Rattle.report_text.proofs.page.Page.score_lines.Goals as goal

pub loop-place-preserved : goal.loop-place-preserved
loop-place-preserved c =
    scores_more c.args.tested.now c.args.scores.now c.requires c.loop-place.place _ _ _ _ _ c.loop-place-test.true c.index-scores-place.is c.loop-place.invariant c.score_line.ensures

pub returns : goal.returns
returns c = scores_all c.args.tested.now c.args.scores.now c.requires c.loop-place.place _ _ (omega arith) c.loop-place.invariant
