use Rattle.rational_laws.specs.Terms.{delta}
use Rattle.rational_laws.specs.Rational.{neg_ℚ}
use Rattle.walk_model.proofs.Tested.{slope_zero, values, rising_weights, falling_weights}
use Rattle.walk_model.proofs.laws.tested_values.Goals as goal

pub returns : goal.returns
returns c =
    record {
      begins = λ p tau k at a. (slope_zero p tau k at a (λ l. neg_ℚ (delta k l)), slope_zero p tau k at a (delta k));
      values = λ p tau t k at a j lk. values p tau k at a t j lk;
      weights = λ p tau t k e lk. (rising_weights p tau k t e lk, falling_weights p tau k t e lk);
    }
