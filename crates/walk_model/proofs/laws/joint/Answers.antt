use Rattle.walk_model.proofs.Joint.{sides_stay, side_left}
use Rattle.walk_model.proofs.Stays.{duals_stay, optimal_stays}
use Rattle.walk_model.proofs.laws.joint.Goals as goal

pub returns : goal.returns
returns c =
    record {
      sides = λ p at next a b j r d h.
          (sides_stay p at a h.before j d r h.first next b h.after h.exchanged h.position, side_left p at a h.before j d r h.first next b h.after h.exchanged h.position);
      duals = λ f at next a b t j r d h. duals_stay f at next a b t j r d h.before h.after h.exchanged h.position h.first;
      optimal = λ f at next a b t j r d h. optimal_stays f at next a b t j r d h.before h.after h.exchanged h.position h.first;
    }
