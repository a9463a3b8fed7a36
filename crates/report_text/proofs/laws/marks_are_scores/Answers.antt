use Rattle.report_text.proofs.Marks.{marks}
use Rattle.report_text.proofs.laws.marks_are_scores.Goals as goal

pub returns : goal.returns
returns g c = marks g.F.Exact.value c.args.problem.now c.args.data_rows c.args.segment.now c.rankscores_outside.ensures.vertex
