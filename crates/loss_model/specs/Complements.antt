-- Stated. Dual values that complement numbers of the rows (complementary slackness; Koenker 2005, chapter 6),
-- with no word on what the dual values weigh. The numbers are the residuals of coefficients, or how these
-- change along a direction.
use Rattle.std.specs.Prelude.{◌≡◌, ℕ, ◌<◌, pos}
use Rattle.rational_laws.specs.Rational.{ℚ, neg_ℚ, whole}
use Rattle.loss_model.specs.Strict.{◌<ℚ◌}
use Rattle.loss_model.specs.Sample.{Sample, up_cost, down_cost, fitted}

-- a value is the up cost where r is positive, and the negated down cost where r is negative
pub record IsComplementary (p : Sample) (theta : ℚ) (r e : ℕ → ℚ) : Type 0 where
  pub above : (i : ℕ) → i < p.rows → whole (pos 0) <ℚ r i → e i ≡ up_cost p theta i
  pub below : (i : ℕ) → i < p.rows → r i <ℚ whole (pos 0) → e i ≡ neg_ℚ (down_cost p theta i)

-- how the residuals change as the coefficients move along d
abbrev pub residual_change : Sample → (ℕ → ℚ) → ℕ → ℚ
residual_change p d i = neg_ℚ (fitted p d i)
