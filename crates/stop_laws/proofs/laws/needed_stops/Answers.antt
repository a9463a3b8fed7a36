use Rattle.stop_laws.proofs.Needed.{solve_needed, process_needed}
use Rattle.stop_laws.proofs.laws.needed_stops.Goals as goal

pub returns : goal.returns
returns g c =
    record {
      solve = λ theta limit stop costs h. solve_needed g.F.Exact.value g.F.Exact.range c.args.problem.now theta limit stop costs h;
      process = λ lo hi limit stop costs h. process_needed g.F.Exact.value g.F.Exact.range c.args.problem.now lo hi limit stop costs h;
    }
