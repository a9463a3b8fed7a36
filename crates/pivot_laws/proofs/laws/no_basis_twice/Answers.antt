use Rattle.pivot_laws.proofs.Bounds.{solve_apart, process_apart, interval_apart}
use Rattle.pivot_laws.proofs.laws.no_basis_twice.Goals as goal

pub returns : goal.returns
returns g c =
    record {
      solve = λ p theta trail basis costs u. solve_apart p theta costs u.first trail.steps u.lawful;
      process = λ p lo hi now trail basis costs u. process_apart p lo hi now trail basis costs u;
      interval = λ p tau c bound trail basis costs lc u. interval_apart p tau c bound trail basis costs lc u;
    }
