use Rattle.walk_model.proofs.Stays.{feasible, complementary, both_complement}
use Rattle.walk_model.proofs.laws.complements.Goals as goal

pub returns : goal.returns
returns c =
    record {
      basis = λ f at a t basis costs stop. (feasible f at a basis t costs stop, complementary f at a basis t);
      joint = λ f at next a b t j r d h. both_complement f at next a b t j r d h.before h.after h.exchanged h.position h.first;
    }
