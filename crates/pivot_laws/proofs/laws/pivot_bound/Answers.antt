use Rattle.pivot_laws.proofs.Bounds.{solve_few, solve_within, process_few, process_within, interval_within}
use Rattle.pivot_laws.proofs.laws.pivot_bound.Goals as goal

pub returns : goal.returns
returns g c =
    record {
      short_solve = λ p theta trail basis costs u. solve_few p theta costs u.first trail.steps u.lawful;
      short_process = λ p lo hi now trail basis costs u. process_few p lo hi now trail basis costs u;
      solve = λ p theta limit trail costs long h. solve_within p theta costs limit trail long h;
      process = λ p lo hi limit trail costs long h. process_within p lo hi limit trail costs long h;
      interval = λ p tau c bound limit trail costs lc long h. interval_within p tau c bound limit trail costs lc long h;
    }
