use Rattle.rank_walk_model.proofs.Intervals.{walk_stands, exact_interval, passes, listed}
use Rattle.rank_walk_model.proofs.laws.lawful_interval.Goals as goal

pub returns : goal.returns
returns g c =
    record {
      stands = walk_stands;
      exact = exact_interval g.F.Exact.value c.args.problem.now c.args.interval.now;
      passes = passes g.F.Exact.value c.args.problem.now c.args.interval.now;
      listed = listed g.F.Exact.value c.args.problem.now c.args.interval.now;
    }
