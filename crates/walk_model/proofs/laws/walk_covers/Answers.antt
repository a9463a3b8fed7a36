use Rattle.walk_model.proofs.Walked.{walk_covers}
use Rattle.walk_model.proofs.laws.walk_covers.Goals as goal

pub returns : goal.returns
returns g c lo hi basis steps segments costs costs' range o walk end segs =
    walk_covers g.F.Exact.value c.args.problem.now lo hi costs costs' basis steps segments range o walk end segs
