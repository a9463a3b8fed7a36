use Rattle.basis_model.proofs.Ordered.{not_zero, ordered}
use Rattle.basis_model.proofs.laws.perturbed_order.Goals as goal

pub returns : goal.returns
returns c = record { signed = not_zero; total = ordered }
