use Rattle.std.proofs.Common.{◌≡◌, ℕ, ◌<◌, length}
use Rattle.rational_laws.specs.Fraction.{rational}
use Rattle.rational_laws.specs.Rational.{◌*ℚ◌, inverse}
use Rattle.loss_model.specs.Problem.{value_at}
use Rattle.whole_inverse.specs.Shares.{share_at}
use Rattle.whole_rows.proofs.values.values_under.Given as goal

abbrev pub invariant-loop-i : goal.invariant-loop-i
invariant-loop-i g l = record {
  size : length l.made ≡ l.i;
  each : (i : ℕ) → i < l.i → value_at g.F.Exact.value l.made i ≡ share_at l.d l.numerators i *ℚ inverse (rational (g.F.Exact.value l.factor));
}
