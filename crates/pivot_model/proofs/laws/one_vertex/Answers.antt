use Rattle.pivot_model.proofs.OneVertex.{one_vertex}
use Rattle.pivot_model.proofs.laws.one_vertex.Goals as goal

pub returns : goal.returns
returns g c =
    one_vertex g.F.Exact.value c.args.problem.now
