use Rattle.rank_walk_model.proofs.Loops as law
use Rattle.rank_walk_model.proofs.laws.walk_as_loop.Goals as goal

pub returns : goal.returns
returns g c =
    record {
      begins = law.begins g.F.Exact.value c.args.problem.now;
      goes_on = law.goes_on g.F.Exact.value c.args.problem.now;
      done = law.done g.F.Exact.value c.args.problem.now;
    }
