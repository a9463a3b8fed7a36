use Rattle.pivot_laws.proofs.Solving.{loss_after, loss_falls}
use Rattle.pivot_laws.proofs.laws.solving_step.Goals as goal

pub returns : goal.returns
returns c =
    record {
      after = λ p at next a b theta j r d u v ex lj enters m. loss_after p at next a b theta j r d u v ex lj enters m;
      falls = λ p at next a b theta j r u v ex costs step. loss_falls p at next a b theta j r step.direction u v ex step.leaving.position step.entering costs;
    }
