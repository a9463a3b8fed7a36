use Rattle.rational_laws.specs.Rational.{neg_ℚ}
use Rattle.rational_laws.specs.Terms.{delta}
use Rattle.walk_model.proofs.Ends.{break_is_there, tested_end, rising_right, falling_right}
use Rattle.walk_model.proofs.Rays.{rising_end, falling_end, rising_scaled, falling_scaled}
use Rattle.walk_model.proofs.laws.tested_ends.Goals as goal

pub returns : goal.returns
returns c =
    record {
      there = λ p tau from k at a basis lk.
          (break_is_there p tau (λ l. neg_ℚ (delta k l)) at a basis from k lk (rising_right k), break_is_there p tau (delta k) at a basis from k lk (falling_right k));
      end = λ p tau from k at a reach basis lk.
          (tested_end p tau (λ l. neg_ℚ (delta k l)) at a basis reach from k lk (rising_right k), tested_end p tau (delta k) at a basis reach from k lk (falling_right k));
      ray = λ p tau t k j d at a basis lk lj stuck. (
        λ cross. (rising_end p tau k at a basis t j lk lj d cross stuck, rising_scaled p tau k at a basis t j lk lj d cross),
        λ cross. (falling_end p tau k at a basis t j lk lj d cross stuck, falling_scaled p tau k at a basis t j lk lj d cross),
      );
    }
