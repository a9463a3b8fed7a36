use Rattle.std.proofs.Common.{◌≡◌, ℕ, ◌<◌, length, pos}
use Rattle.rational_laws.specs.Fraction.{rational}
use Rattle.rational_laws.specs.Rational.{◌*ℚ◌, inverse}
use Rattle.loss_model.specs.Problem.{number_at}
use Rattle.whole_inverse.specs.Shares.{share_at}
use Rattle.whole_rows.specs.Wholes.{factor_at}
use Rattle.gram_check.proofs.values.values_over.Given as goal

abbrev pub invariant-loop-k : goal.invariant-loop-k
invariant-loop-k l = record {
  size : length l.made ≡ l.k;
  each : (k : ℕ) → k < l.k → number_at l.made k ≡ (share_at (pos l.factors.denominator) l.factors.numerators k *ℚ factor_at l.scales k) *ℚ inverse (rational l.scale);
}
