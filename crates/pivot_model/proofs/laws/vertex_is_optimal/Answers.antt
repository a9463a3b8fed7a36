use Rattle.pivot_model.proofs.Solved.{full_rank, vertex_is_optimal}
use Rattle.pivot_model.proofs.laws.vertex_is_optimal.Goals as goal

pub returns : goal.returns
returns g c =
    record {
      rank = full_rank;
      optimal = λ theta basis a v basic size b vertex duals. vertex_is_optimal g.F.Exact.value c.args.problem.now theta basis a v basic size b vertex duals;
    }
