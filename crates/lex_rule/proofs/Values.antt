-- Values that were read.
use Rattle.std.specs.Prelude.{◌≡◌, cond, pos, ◌≤ℤ◌}
use Rattle.std.proofs.Common.{sym, ap}
use Rattle.rational_laws.specs.Rational.{ℚ, neg_ℚ}
use Rattle.rational_laws.specs.Order.{sign_ℚ}
use Rattle.rational_laws.proofs.OrderLaws.{sign_ℚ-not_below}
use Rattle.loss_model.specs.Spill.{abs_ℚ}

-- a value that isn't negative is its own absolute value
pub own_size : (x : ℚ) → pos 0 ≤ℤ sign_ℚ x → x ≡ abs_ℚ x
own_size x h = sym (ap (λ t. cond t x (neg_ℚ x)) ((sign_ℚ-not_below x).0 h).le)
