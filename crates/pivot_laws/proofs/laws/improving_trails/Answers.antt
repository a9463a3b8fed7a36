use Rattle.pivot_laws.proofs.Along.{solve_improves, process_improves, interval_improves}
use Rattle.pivot_laws.proofs.laws.improving_trails.Goals as goal

pub returns : goal.returns
returns g c =
    record {
      solve = λ p theta trail basis costs u. solve_improves p theta trail basis costs u;
      process = λ p lo hi now trail basis costs u. process_improves p lo hi now trail basis costs u;
      interval = λ p tau c bound trail basis costs lc u. interval_improves p tau c bound trail basis costs lc u;
    }
