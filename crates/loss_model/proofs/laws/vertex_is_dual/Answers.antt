use Rattle.loss_model.proofs.Vertices.{vertex_dual}
use Rattle.loss_model.proofs.laws.vertex_is_dual.Goals as goal

pub returns : goal.returns
returns g c = vertex_dual g.F.Exact.value c.args.problem.now c.args.vertex.now c.args.basic.now
