use Rattle.walk_model.specs.WalkTrails.{theta_value, negated_theta}
use Rattle.walk_model.proofs.Improved.{loss_stays, change_falls, coefficient_moves}
use Rattle.walk_model.proofs.NoneTwice.{none_twice_over_quantiles, none_twice_rising, none_twice_falling}
use Rattle.walk_model.proofs.laws.improving_steps.Goals as goal

pub returns : goal.returns
returns g c =
    record {
      quantiles = λ p at next a b t j r d h cross.
          (loss_stays p at next a b j r d h.before h.after h.exchanged h.position h.first t cross.meets, change_falls p at next a b j r d h.before h.after h.exchanged h.position h.first t cross);
      tested = λ p tau t k at next a b j r d lk h. coefficient_moves p at next a b j r d h.before h.after h.exchanged h.position h.first k lk tau t;
      none_twice = λ p. (
        λ reach from basis x steps a b size u e v h walk. none_twice_over_quantiles (theta_value) p reach from basis x steps a b size u e v h walk,
        λ tau k lk reach from basis x steps a b size u e v h walk. none_twice_rising (negated_theta) p reach tau k lk from basis x steps a b size u e v h walk,
        λ tau k lk reach from basis x steps a b size u e v h walk. none_twice_falling (theta_value) p reach tau k lk from basis x steps a b size u e v h walk,
      );
    }
