use Rattle.walk_model.proofs.Changes.{coefficients_change, residuals_change, totals_change}
use Rattle.walk_model.proofs.laws.changes.Goals as goal

pub returns : goal.returns
returns c =
    record {
      coefficients = λ p at next a b j r k basis after ex lj some. coefficients_change p at next a b j r basis after ex lj some k;
      residuals = λ p at next a b j r i basis after ex lj some. residuals_change p at next a b j r basis after ex lj some i;
      totals = λ p at next a b j r d part k h. totals_change p at next a b j r h.before h.after h.exchanged h.position d h.first part k;
    }
