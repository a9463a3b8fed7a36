use Rattle.pivot_model.proofs.Exchanged.{residual_after, perturbed_is}
use Rattle.pivot_model.proofs.laws.exchanged_residuals.Goals as goal

pub returns : goal.returns
returns c =
    record {
      residuals = λ p at a j r v i lj some. residual_after p at a j r lj some v i;
      entries = λ p at a i m out. perturbed_is p at a i out m;
    }
