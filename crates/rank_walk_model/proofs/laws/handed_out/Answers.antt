use Rattle.rank_walk_model.proofs.Ends.{right_end, meets}
use Rattle.rank_walk_model.proofs.laws.handed_out.Goals as goal

pub returns : goal.returns
returns g c = record { right = right_end g.F.Exact.value c.args.problem.now; conditions = meets g.F.Exact.value c.args.problem.now }
