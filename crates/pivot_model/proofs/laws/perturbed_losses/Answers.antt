use Rattle.pivot_model.proofs.PerturbedLosses.{begins, changes, coefficient_is}
use Rattle.pivot_model.proofs.laws.perturbed_losses.Goals as goal

pub returns : goal.returns
returns c =
    record {
      loss = λ p at a theta basis. begins p at a basis theta;
      change = λ p at a theta step m. changes p at a theta step m;
      coefficient = λ p at a k j basis lj. coefficient_is p at a basis k j lj;
    }
