use Rattle.loss_model.specs.Problem.{sample}
use Rattle.stop_laws.proofs.Needed.{solve_full, process_full}
use Rattle.stop_laws.proofs.laws.limits_are_answered.Goals as goal

pub returns : goal.returns
returns g c =
    record {
      solve = λ theta limit h. solve_full (sample g.F.Exact.value c.args.problem.now) theta limit h.0 h.1;
      process = λ lo hi limit h. process_full (sample g.F.Exact.value c.args.problem.now) lo hi limit h.0 h.1;
    }
